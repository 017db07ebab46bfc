use Rattle.model.specs.Rules.{nth, flags}
use Rattle.rules.proofs.bits.Rule.life.Goals as goal

pub invariant_of-result : goal.invariant_of-result
unfolding nth flags
invariant_of-result c = record { good = tt }
