use Rattle.std.proofs.Common.{length}
use Rattle.slots.specs.Stores.{table}
use Rattle.probe.proofs.Probing.{Passed}
use Rattle.probe.proofs.find.Given as goal

abbrev pub invariant-loop-slot : goal.invariant-loop-slot
invariant-loop-slot l = Passed l.store.slots (table l.store) l.node (length l.yielded) l.spot
