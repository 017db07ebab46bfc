use Rattle.slots.specs.Stores.{mem, Same, Fixed}
use Rattle.store.specs.Interning.{Cleared}
use Rattle.store.proofs.clear.Given as goal

abbrev pub invariant-loop-slot : goal.invariant-loop-slot
invariant-loop-slot l = Same l.initial.store l.store × Fixed l.initial.store l.store × Cleared l.initial.store.at l.slot (mem l.initial.store) (mem l.store)
