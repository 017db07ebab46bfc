use Rattle.trees.proofs.Rows.{good_or}
use Rattle.storebench.proofs.nodes.Goals as goal

pub weave_often-before-requires-clause-good : goal.weave_often-before-requires-clause-good
weave_often-before-requires-clause-good c = good_or _ _ _ _ _ _ c.plant.ensures
