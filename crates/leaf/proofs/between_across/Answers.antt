use Rattle.leaf.proofs.Joins.{across_left, across_right}
use Rattle.leaf.proofs.between_across.Goals as goal

pub returns : goal.returns
returns c = record { left = across_left c.args.west c.args.east; right = across_right c.args.west c.args.east }
