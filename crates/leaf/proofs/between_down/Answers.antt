use Rattle.std.proofs.Common.{arith}
use Rattle.leaf.proofs.Joins.{down_upper, down_lower}
use Rattle.leaf.proofs.between_down.Goals as goal

pub returns : goal.returns
returns c = record { upper = down_upper c.args.north c.args.south; lower = λ x y. down_lower c.args.north c.args.south x y (omega arith) }
