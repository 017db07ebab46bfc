use Prim.Native.Nat.{ℕ, ◌<◌}
use Rattle.nodes.specs.Memory.{Marked, held_in}
use Rattle.nodes.specs.Marking.{MarksAt}
use Rattle.slots.specs.Stores.{mem, Same, Fixed, Closed}
use Rattle.mark.proofs.mark_held.Given as goal

abbrev pub invariant-loop-k : goal.invariant-loop-k
invariant-loop-k l =
    Same l.initial.store l.store × Fixed l.initial.store l.store × Closed l.store × MarksAt l.initial.store.at (mem l.initial.store) (mem l.store) ×
    ((j : ℕ) → j < l.k → Marked l.initial.store.at (mem l.store) (held_in l.initial.store.at (mem l.initial.store) j))
