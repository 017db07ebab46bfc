-- A fact of each of four.
use mathlib.Core.List.{[], ◌∷◌}
use Rattle.std.specs.List.{All}
use Rattle.std.proofs.lemmas.List.Elements.{All-nil, All-cons}
use Rattle.model.specs.declared.quarters.Quarters.{Quarters}
use Rattle.model.specs.Quarters.{each_of}

pub all_each : {A : Type 0} (P : A → Type 0) (q : Quarters A) → P q.nw → P q.ne → P q.sw → P q.se → All P (each_of q)
all_each P q a b c d =
    All-cons P q.nw (q.ne ∷ q.sw ∷ q.se ∷ []) a (All-cons P q.ne (q.sw ∷ q.se ∷ []) b (All-cons P q.sw (q.se ∷ []) c (All-cons P q.se [] d (All-nil P))))
