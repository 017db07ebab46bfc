use Rattle.sweep.proofs.SecondPass.{Retagging}
use Rattle.sweep.proofs.retag.Given as goal

abbrev pub invariant-loop-slot : goal.invariant-loop-slot
invariant-loop-slot l = Retagging l.initial.store l.store l.slot l.least
