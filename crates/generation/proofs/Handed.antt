-- What `?` hands on.
use Rattle.std.proofs.Common.{◌≡◌, Result, Ok, Err, IsErrAnd, ap}

pub handed : {A E : Type 0} (r : Result A E) (e : E) → IsErrAnd r (λ v. v ≡ e) → r ≡ Err e
handed (Ok t) e h = absurd h
handed (Err v) e h = ap Err h
