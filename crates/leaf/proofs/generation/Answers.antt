use Rattle.std.proofs.Common.{arith}
use Rattle.rules.specs.Laws.{law}
use Rattle.leaf.proofs.generation.Goals as goal

pub returns : goal.returns
returns c = c.next_each.ensures (law c.args.rule) c.new.ensures 0 (omega arith)
