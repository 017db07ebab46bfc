use Rattle.trees.specs.Growing.{grown}
use Rattle.trees.proofs.Rows.{Row}
use Rattle.trees.proofs.grow_many.Given as goal

abbrev pub invariant-loop-x : goal.invariant-loop-x
invariant-loop-x l = Row l.initial.store l.store l.initial.hold.from l.hold l.depth l.x (λ x. grown l.leaves l.depth (record { x = x; y = 0 }))
