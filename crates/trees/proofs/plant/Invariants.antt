use Rattle.leaf.specs.AsSquares.{word_square}
use Rattle.trees.specs.Mixed.{mix}
use Rattle.trees.proofs.Rows.{Row}
use Rattle.trees.proofs.plant.Given as goal

abbrev pub invariant-loop-k : goal.invariant-loop-k
invariant-loop-k l = Row l.initial.store l.store l.initial.hold.from l.hold 0 l.k (λ j. word_square (mix l.seed j))
