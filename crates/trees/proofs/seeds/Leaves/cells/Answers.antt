use Rattle.std.proofs.Common.{rules}
use Rattle.trees.specs.Growing.{cells_at}
use Rattle.trees.proofs.seeds.Leaves.cells.Goals as goal

pub returns-then-kind-eq0 : goal.returns-then-kind-eq0
unfolding cells_at
returns-then-kind-eq0 c = search rules

pub returns-else-kind-eq0 : goal.returns-else-kind-eq0
unfolding cells_at
returns-else-kind-eq0 c = search rules
