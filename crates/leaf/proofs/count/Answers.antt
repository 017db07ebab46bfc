use Rattle.std.proofs.Common.{arith}
use Rattle.leaf.proofs.CellLaws.{ones_living}
use Rattle.leaf.proofs.count.Goals as goal

pub returns : goal.returns
returns c = ones_living c.args.w (omega arith)
