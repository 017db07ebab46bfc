use Rattle.trees.proofs.Rows.{good_or}
use Rattle.storebench.proofs.half_held.Goals as goal

pub collections-timed-requires : goal.collections-timed-requires
collections-timed-requires c = good_or _ _ _ _ _ _ c.grow_held.ensures
