-- Lists given by an index: what lives in them, when they are in order, one cell more at the end.
use mathlib.Core.Path.{◌≡◌, refl, sym, ap, subst, ◌∙◌}
use mathlib.Core.List.{List, [], ◌∷◌, ◌++◌}
use mathlib.Core.Logic.{inl, inr}
use Prim.Native.Nat.{ℕ, zero, suc, ◌+◌, ◌<◌, ◌≤◌}
use native.Mathlib.Nat.{add-zero}
use native.Mathlib.Omega.{arith}
use native.Mathlib.Decide.{dec_lt}
use lib.Dec.{T}
use lib.IntN.{ℤ}
use lib.ListN.{length}
use Rattle.model.specs.declared.Cell.{Cell}
use Rattle.model.specs.Cells.{cell_at, before, in_order, lives}
use Rattle.model.proofs.Order.{lives_out, lives_head, lives_tail, lives_none, order_tail, order_after, order_in}
use Rattle.lent.specs.Stretches.{tab}

-- the cell of some index
pub record Has (f : ℕ → Cell) (i n : ℕ) (c : Cell) : Type 0 where
  pub index : ℕ
  pub low : i ≤ index
  pub high : index < i + n
  pub is : f index ≡ c

pub tab_out : (f : ℕ → Cell) (i n : ℕ) (x y : ℤ) → T (lives x y (tab f i n)) → Has f i n (cell_at x y)
unfolding tab
tab_out f i zero x y t = absurd (lives_none x y t)
tab_out f i (suc n) x y t =
    elim (lives_out x y (f i) (tab f (suc i) n) t) [
      | inl e ↦ record { index = i; low = omega arith; high = omega arith; is = sym e }
      | inr h ↦ let k = tab_out f (suc i) n x y h in record { index = k.index; low = omega arith; high = omega arith; is = k.is }
    ]

pub tab_in : (f : ℕ → Cell) (i n : ℕ) (x y : ℤ) → Has f i n (cell_at x y) → T (lives x y (tab f i n))
unfolding tab
tab_in f i zero x y k = let l = k.low in let h = k.high in absurd (omega arith)
tab_in f i (suc n) x y k =
    elim (dec_lt i k.index) [
      | yes h ↦ lives_tail x y (f i) (tab f (suc i) n) (tab_in f (suc i) n x y (record { index = k.index; low = omega arith; high = omega arith; is = k.is }))
      | no h ↦
          let e : k.index ≡ i = let l = k.low in omega arith in
          subst (λ (c : Cell). T (lives c.x c.y (f i ∷ tab f (suc i) n))) (ap f (sym e) ∙ k.is) (lives_head (f i) (tab f (suc i) n))
    ]

pub tab_length : (f : ℕ → Cell) (i n : ℕ) → length (tab f i n) ≡ n
unfolding tab
tab_length f i zero = refl
tab_length f i (suc n) = ap suc (tab_length f (suc i) n)

-- neighbours in order
pub tab_order : (f : ℕ → Cell) (i n : ℕ) → ((j k : ℕ) → i ≤ j → j < k → k < i + n → T (before (f j) (f k))) → T (in_order (tab f i n))
unfolding tab in_order
tab_order f i zero h = tt
tab_order f i (suc n) h =
    order_in (f i) (tab f (suc i) n)
    (λ x y t.
    let k = tab_out f (suc i) n x y t in
    subst (λ (c : Cell). T (before (f i) c)) k.is (h i k.index (omega arith) (omega arith) (omega arith)))
    (tab_order f (suc i) n (λ j k a b c. h j k (omega arith) b (omega arith)))

pub order_tab : (f : ℕ → Cell) (i n : ℕ) → T (in_order (tab f i n)) → (j k : ℕ) → i ≤ j → j < k → k < i + n → T (before (f j) (f k))
unfolding tab
order_tab f i zero t j k a b c = absurd (omega arith)
order_tab f i (suc n) t j k a b c =
    elim (dec_lt i j) [
      | yes h ↦ order_tab f (suc i) n (order_tail (f i) (tab f (suc i) n) t) j k (omega arith) b (omega arith)
      | no h ↦
          let e : i ≡ j = omega arith in
          let later = tab_in f (suc i) n (f k).x (f k).y (record { index = k; low = omega arith; high = omega arith; is = refl }) in
          subst (λ (u : ℕ). T (before (f u) (f k))) e (order_after (f i) (tab f (suc i) n) (f k).x (f k).y t later)
    ]

pub tab_same : (f g : ℕ → Cell) (i n : ℕ) → ((k : ℕ) → i ≤ k → k < i + n → f k ≡ g k) → tab f i n ≡ tab g i n
unfolding tab
tab_same f g i zero h = refl
tab_same f g i (suc n) h =
    let e = h i (omega arith) (omega arith) in let t = tab_same f g (suc i) n (λ k a b. h k (omega arith) (omega arith)) in
    λ s. e s ∷ t s

pub tab_more : (f : ℕ → Cell) (i n : ℕ) → tab f i (suc n) ≡ tab f i n ++ (f (i + n) ∷ [])
unfolding tab
tab_more f i zero = rw add-zero
tab_more f i (suc n) = let e = tab_more f (suc i) n in let s : suc i + n ≡ i + suc n = omega arith in ap (λ (t : List Cell). f i ∷ t) (e ∙ ap (λ (u : ℕ). tab f (suc i) n ++ (f u ∷ [])) s)
