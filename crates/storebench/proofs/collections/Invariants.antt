use Rattle.trees.specs.Growing.{Kept}
use Rattle.storebench.proofs.collections.Given as goal

abbrev pub invariant-loop-turn : goal.invariant-loop-turn
invariant-loop-turn l = Kept l.initial.store l.store
