use Rattle.model.specs.Planes.{always}
use Rattle.model.specs.Rules.{life}
use Rattle.model.proofs.Time.{adds}
use Rattle.model.proofs.Put.{lists_right}
use Rattle.model.proofs.Leaps.{leap_right}
use Rattle.model.proofs.Alike.{slow, alike}
use Rattle.model.proofs.ForEver.{for_ever}
use Rattle.model.proofs.whole_stands.Goals as goal

pub returns : goal.returns
returns c = (lists_right, (λ r. leap_right (always (life r)), (λ r. slow (always (life r)), (alike, (adds, for_ever)))))
