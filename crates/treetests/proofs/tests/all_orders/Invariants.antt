use Rattle.trees.specs.Growing.{Kept}
use Rattle.treetests.proofs.tests.all_orders.Given as goal

abbrev pub invariant-loop-order : goal.invariant-loop-order
invariant-loop-order l = Kept l.initial.store l.store
