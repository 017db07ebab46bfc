-- Lists of two stretches, compared as pairs of words.
use Rattle.std.proofs.Common.{◌≡◌, ℕ, zero, suc, ◌+◌, ◌<◌, ◌≤◌, Bool, true, false, T, List, [], ◌∷◌, length, get_or, refl, sym, ap, ◌∙◌, subst, arith, ext_get_or}
use native.Mathlib.Decide.{dec_lt}
use lib.Dec.{eqb}
use lib.Pointwise.{pointwise, pointwise_decides, bytes_decides}
use Rattle.model.specs.declared.Cell.{Cell}
use Rattle.model.specs.Cells.{cell_at, same_cells}
use Rattle.model.proofs.Order.{bool_same}
use Rattle.model.proofs.Periods.{same_cells_lem, same_cells_refl}
use Rattle.lent.specs.declared.Stretch.{Stretch}
use Rattle.lent.specs.Stretches.{to_z, tab, row_at, col_at, entry, cells_in}
use Rattle.lent.specs.Entries.{Pairs}
use Rattle.lent.proofs.Tab.{tab_length, tab_same}
use Rattle.lent.proofs.Listing.{to_z_inj}

-- equal lists have equal cells
pub tab_at : (f g : ℕ → Cell) (i n : ℕ) → tab f i n ≡ tab g i n → (k : ℕ) → i ≤ k → k < i + n → f k ≡ g k
unfolding tab
tab_at f g i zero e k l h = absurd (omega arith)
tab_at f g i (suc n) e k l h =
    let head : f i ≡ g i = cc in let tail : tab f (suc i) n ≡ tab g (suc i) n = cc in
    elim (dec_lt i k) [
      | yes p ↦ tab_at f g (suc i) n tail k (omega arith) (omega arith)
      | no p ↦ let z : i ≡ k = omega arith in subst (λ (u : ℕ). f u ≡ g u) z head
    ]

module _ (m m' : List ℕ) (a b : Stretch) (p q : List (List ℕ)) (f : Pairs m a p) (g : Pairs m' b q) where
  equal_cells : p ≡ q → cells_in m a ≡ cells_in m' b
  equal_cells e =
      let long : a.len ≡ b.len = sym f.all ∙ ap length e ∙ g.all in
      tab_same (entry m a.at) (entry m' b.at) 0 a.len
      (λ k l h.
      let w = sym (f.each k [] (omega arith)) ∙ ap (λ (r : List (List ℕ)). get_or r k []) e ∙ g.each k [] (omega arith) in
      λ t. cell_at (to_z (get_or (w t) 1 0)) (to_z (get_or (w t) 0 0))) ∙
      ap (λ (n : ℕ). tab (entry m' b.at) 0 n) long

  equal_pairs : cells_in m a ≡ cells_in m' b → p ≡ q
  equal_pairs e =
      let long : a.len ≡ b.len = sym (tab_length (entry m a.at) 0 a.len) ∙ ap length e ∙ tab_length (entry m' b.at) 0 b.len in
      let all : tab (entry m a.at) 0 a.len ≡ tab (entry m' b.at) 0 a.len = e ∙ ap (λ (n : ℕ). tab (entry m' b.at) 0 n) (sym long) in
      ext_get_or [] p q (f.all ∙ long ∙ sym g.all)
      (λ k h.
      let l = f.all in
      let c = tab_at (entry m a.at) (entry m' b.at) 0 a.len all k (omega arith) (omega arith) in
      let row = to_z_inj (row_at m a.at k) (row_at m' b.at k) (ap (λ (z : Cell). z.y) c) in
      let column = to_z_inj (col_at m a.at k) (col_at m' b.at k) (ap (λ (z : Cell). z.x) c) in
      f.each k [] (omega arith) ∙ (λ t. row t ∷ column t ∷ []) ∙ sym (g.each k [] (omega arith)))

  pub same_pairs : pointwise (pointwise eqb) p q ≡ same_cells (cells_in m a) (cells_in m' b)
  same_pairs =
      let told = pointwise_decides bytes_decides p q in
      bool_same _ _
      (λ t. subst (λ (cs : List Cell). T (same_cells (cells_in m a) cs)) (equal_cells (told.0 (so _ t))) (same_cells_refl (cells_in m a)))
      (λ t. subst T (sym (told.1 (equal_pairs (same_cells_lem _ _ t)))) tt)
    where
      so : (z : Bool) → T z → z ≡ true
      so true t = refl
      so false t = absurd t
