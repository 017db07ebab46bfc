-- Generations add up, on lists and on planes.
use Rattle.std.proofs.Common.{◌≡◌, ℕ, zero, suc, List, sym, refl, ap, ◌∙◌, suc-add, zero-add}
use Rattle.model.specs.Planes.{step, steps}
use Rattle.model.specs.Rules.{Rule}
use Rattle.model.specs.Cells.{Cell}
use Rattle.model.specs.Lists.{next_of, nexts}
use Rattle.model.specs.Promise.{Adds, PlanesAdd}

pub adds : Adds
unfolding nexts
adds r zero n cs = λ i. nexts r (zero-add n i) cs
adds r (suc m) n cs = (λ i. nexts r (suc-add m n i) cs) ∙ adds r m n (next_of r cs)

-- the schedule that is left after m generations is the old one from its m-th entry on
pub steps_add : {S : Type 0} → PlanesAdd S
unfolding steps
steps_add σ zero n p = λ i. steps (λ t. σ (sym (zero-add t) i)) (zero-add n i) p
steps_add σ (suc m) n p =
    (λ i. steps σ (suc-add m n i) p) ∙ steps_add (λ t. σ (suc t)) m n (step (σ 0) p) ∙
    (λ i. steps (λ t. σ (sym (suc-add m t) i)) n (steps (λ t. σ (suc t)) m (step (σ 0) p)))

pub nexts_last : (r : Rule) (n : ℕ) (cs : List Cell) → nexts r (suc n) cs ≡ next_of r (nexts r n cs)
unfolding nexts
nexts_last r zero cs = refl
nexts_last r (suc n) cs = nexts_last r n (next_of r cs)

pub nexts_still : (r : Rule) (n : ℕ) (cs : List Cell) → next_of r cs ≡ cs → nexts r n cs ≡ cs
unfolding nexts
nexts_still r zero cs e = refl
nexts_still r (suc n) cs e = ap (nexts r n) e ∙ nexts_still r n cs e
