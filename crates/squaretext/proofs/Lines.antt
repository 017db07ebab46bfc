-- The first line, and what follows it.
use Rattle.std.proofs.Common.{◌≡◌, ℕ, zero, suc, ◌+◌, ◌<◌, Bool, cond, List, [], ◌∷◌, length, get_or, take, drop, sym, refl, ap, ◌∙◌, add-one, arith}
use Rattle.std.proofs.lemmas.Bool.{eq-eqb, ne_eqb}
use Rattle.squaretext.specs.Asked.{first_line, next_lines}

abbrev Parted : List ℕ → ℕ → Type 0
Parted bs n = (take n bs ≡ first_line bs) × (drop (suc n) bs ≡ next_lines bs)

parted : (bs : List ℕ) (n : ℕ) → n < length bs → ((k : ℕ) → k < n → get_or bs k 0 ≡ 10 → ⊥) → get_or bs n 0 ≡ 10 → Parted bs n
unfolding first_line next_lines
parted [] n h none e = absurd (omega arith)
parted (b ∷ bs) zero h none e =
    let t = eq-eqb b 10 e in (sym (ap (λ (t : Bool). cond t [] (b ∷ first_line bs)) t), sym (ap (λ (t : Bool). cond t bs (next_lines bs)) t))
parted (b ∷ bs) (suc n) h none e =
    let t = ne_eqb b 10 (λ g. none 0 (omega arith) g) in
    let rest : Parted bs n = parted bs n (omega arith) (λ k l g. none (suc k) (omega arith) g) e in (
      ap (λ (l : List ℕ). b ∷ l) rest.0 ∙ sym (ap (λ (t : Bool). cond t [] (b ∷ first_line bs)) t),
      rest.1 ∙ sym (ap (λ (t : Bool). cond t bs (next_lines bs)) t),
    )

pub line_is : (bs : List ℕ) (n : ℕ) → n < length bs → ((k : ℕ) → k < n → get_or bs k 0 ≡ 10 → ⊥) → get_or bs n 0 ≡ 10 → take n bs ≡ first_line bs
line_is bs n h none e = (parted bs n h none e).0

pub rest_is : (bs : List ℕ) (n : ℕ) → n < length bs → ((k : ℕ) → k < n → get_or bs k 0 ≡ 10 → ⊥) → get_or bs n 0 ≡ 10 → drop (n + 1) bs ≡ next_lines bs
rest_is bs n h none e = ap (λ (k : ℕ). drop k bs) (add-one n) ∙ (parted bs n h none e).1

-- a text of one line without an end
pub unbroken : (bs : List ℕ) → ((k : ℕ) → k < length bs → get_or bs k 0 ≡ 10 → ⊥) → (bs ≡ first_line bs) × ([] ≡ next_lines bs)
unfolding first_line next_lines
unbroken [] none = (refl, refl)
unbroken (b ∷ bs) none =
    let t = ne_eqb b 10 (λ g. none 0 (omega arith) g) in
    let rest : (bs ≡ first_line bs) × ([] ≡ next_lines bs) = unbroken bs (λ k l g. none (suc k) (omega arith) g) in (
      ap (λ (l : List ℕ). b ∷ l) rest.0 ∙ sym (ap (λ (t : Bool). cond t [] (b ∷ first_line bs)) t),
      rest.1 ∙ sym (ap (λ (t : Bool). cond t bs (next_lines bs)) t),
    )
