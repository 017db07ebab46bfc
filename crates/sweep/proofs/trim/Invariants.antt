use Rattle.sweep.proofs.FirstPass.{Trimming}
use Rattle.sweep.proofs.trim.Given as goal

abbrev pub invariant-loop-slot : goal.invariant-loop-slot
invariant-loop-slot l = Trimming l.initial.store l.store l.slot l.survey
