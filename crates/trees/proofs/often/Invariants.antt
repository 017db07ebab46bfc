use Rattle.std.proofs.Common.{◌≤◌}
use Rattle.trees.specs.Growing.{Kept}
use Rattle.trees.proofs.often.Given as goal

abbrev pub invariant-loop-turn : goal.invariant-loop-turn
invariant-loop-turn g l = Kept l.initial.store l.store × (l.tally.collections ≤ l.turn)
