use Rattle.model.proofs.leaps_stand.Goals as goal
use Rattle.model.proofs.Leaps.{leap_right, leap_by_right, leaps_all_right}
use Rattle.model.proofs.Alike.{slow, symmetry_right}

pub returns : goal.returns
returns g c = λ σ. (leap_right σ, (leap_by_right σ, (leaps_all_right σ, (slow σ, symmetry_right σ))))
