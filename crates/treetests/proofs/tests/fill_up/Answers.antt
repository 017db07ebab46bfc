use Rattle.trees.proofs.Rows.{taken_end}
use Rattle.treetests.proofs.tests.fill_up.Goals as goal

pub returns-then-used-slots-2 : goal.returns-then-used-slots-2
returns-then-used-slots-2 c = let g = c.release.ensures in taken_end c.in_ok-hold.ensures.0 g.same g.good g.popped

pub returns-else-used-slots-2 : goal.returns-else-used-slots-2
returns-else-used-slots-2 c = let g = c.release.ensures in taken_end c.in_ok-hold.ensures.0 g.same g.good g.popped
