-- To find a cell by halving.
use Rattle.std.proofs.Common.{◌≡◌, ℕ, ◌-◌, ◌<◌, ◌≤◌, Bool, true, false, ◌&&◌, ◌||◌, ltb, T, ◌⊎◌, List, [], ◌∷◌, length, get_or, ℤ, MatchBool, sym, refl, ap, ◌∙◌, subst, inl, inr, arith}
use native.Mathlib.Decide.{dec_lt}
use lib.Dec.{eqb}
use Rattle.std.specs.List.Sorted.{IsPartitionedBy, IsPartitionPoint}
use Rattle.model.specs.Cells.{lives}
use Rattle.model.specs.World.{far, size, edge}
use Rattle.model.proofs.Order.{bool_same}
use Rattle.model.proofs.Reach.{far_out}
use Rattle.lent.specs.declared.Stretch.{Stretch}
use Rattle.lent.specs.Stretches.{to_z, row_at, col_at, cells_in, Listed}
use Rattle.lent.specs.Entries.{Pairs}
use Rattle.lent.proofs.Listing.{to_z_inj, listed_order, listed_lives, listed_find}
use Rattle.cells.specs.Places.{Earlier, Later, Place, Holds}

pub earlier_down : (m : List ℕ) (s : Stretch) → Listed m s → (row col j k : ℕ) → j ≤ k → k < s.len → Earlier m s k row col → Earlier m s j row col
earlier_down m s h row col j k a b e = go (dec_lt j k) e
  where
    go : Dec (j < k) → Earlier m s k row col → Earlier m s j row col
    go (yes l) (inl p) = elim (listed_order m s h j k l b) [ inl o ↦ inl (omega arith) | inr o ↦ let o0 = o.0 in inl (omega arith) ]
    go (yes l) (inr (p, q)) = elim (listed_order m s h j k l b) [ inl o ↦ inl (omega arith) | inr o ↦ let o0 = o.0 in let o1 = o.1 in inr (omega arith, omega arith) ]
    go (no l) e = let z : k ≡ j = omega arith in subst (λ (i : ℕ). Earlier m s i row col) z e

earlier_or_later : (a b row col : ℕ) → ((a < row) ⊎ ((a ≡ row) × (b < col))) ⊎ ((row < a) ⊎ ((a ≡ row) × (col ≤ b)))
earlier_or_later a b row col = grind arith

apart : (a b row col : ℕ) → (a < row) ⊎ ((a ≡ row) × (b < col)) → (row < a) ⊎ ((a ≡ row) × (col ≤ b)) → ⊥
apart a b row col e l = grind arith

-- A place is known by the cells beside it.
place_beside : (m : List ℕ) (s : Stretch) → Listed m s → (row col i : ℕ) → i ≤ s.len → (0 < i → Earlier m s (i - 1) row col) → (i < s.len → Later m s i row col) → Place m s row col i
place_beside m s h row col i b e l =
    record {
      high = b;
      early = λ k a. earlier_down m s h row col k (i - 1) (omega arith) (omega arith) (e (omega arith));
      late = λ k a u. elim (earlier_or_later (row_at m s.at k) (col_at m s.at k) row col) [
        | inl f ↦ absurd (apart _ _ row col (earlier_down m s h row col i k a u f) (l (omega arith)))
        | inr f ↦ f
      ];
    }

pub place_told : (m : List ℕ) (s : Stretch) → Listed m s → (row col i : ℕ) → i ≤ s.len → (0 < i → Earlier m s (i - 1) row col) → (r : Bool) →
    (i < s.len → r ≡ true → Later m s i row col) → (r ≡ false → (i < s.len) × Earlier m s i row col) → MatchBool r (Place m s row col i) (Place m s row col i → ⊥)
place_told m s h row col i b e true l f = place_beside m s h row col i b e (λ u. l u refl)
place_told m s h row col i b e false l f = λ p. let g = f refl in apart _ _ row col g.1 (p.late i (omega arith) g.0)

-- whether the cell of these two words comes before the one of that row and column
abbrev pub precedes : ℕ → ℕ → List ℕ → Bool
precedes row col w = ltb (get_or w 0 0) row || (eqb (get_or w 0 0) row && ltb (get_or w 1 0) col)

precedes_out : (a b row col : ℕ) → precedes row col (a ∷ b ∷ []) ≡ true → (a < row) ⊎ ((a ≡ row) × (b < col))
precedes_out a b row col e = grind arith

precedes_in : (a b row col : ℕ) → (a < row) ⊎ ((a ≡ row) × (b < col)) → precedes row col (a ∷ b ∷ []) ≡ true
precedes_in a b row col e = grind arith

follows_out : (a b row col : ℕ) → precedes row col (a ∷ b ∷ []) ≡ false → (row < a) ⊎ ((a ≡ row) × (col ≤ b))
follows_out a b row col e = grind arith

module _ (m : List ℕ) (s : Stretch) (row col : ℕ) (pairs : List (List ℕ)) (h : Listed m s) (p : Pairs m s pairs) where
  at_pair : (b : Bool) (k : ℕ) (d : List ℕ) → k < s.len → precedes row col (get_or pairs k d) ≡ b → precedes row col (row_at m s.at k ∷ col_at m s.at k ∷ []) ≡ b
  at_pair b k d l e = ap (precedes row col) (sym (p.each k d l)) ∙ e

  pub pairs_part : IsPartitionedBy (precedes row col) pairs
  pairs_part i j d l b e =
      let n = p.all in
      let earlier = earlier_down m s h row col i j l (omega arith) (precedes_out _ _ row col (at_pair true j d (omega arith) e)) in
      ap (precedes row col) (p.each i d (omega arith)) ∙ precedes_in _ _ row col earlier

  pub found_place : (i : ℕ) → i ≤ length pairs → IsPartitionPoint (λ w. precedes row col w ≡ true) (λ w. precedes row col w ≡ false) pairs i → Place m s row col i
  found_place i b q =
      let n = p.all in
      record {
        high = omega arith;
        early = λ k l. precedes_out _ _ row col (at_pair true k [] (omega arith) (q.0 k [] (omega arith) l));
        late = λ k l u. follows_out _ _ row col (at_pair false k [] u (q.1 k [] l (omega arith)));
      }

far_size : (x y : ℤ) → T (far x y) → (edge < size x) ⊎ (edge < size y)
far_size x y t = grind arith

pub lives_far : (m : List ℕ) (s : Stretch) (x y : ℤ) → Listed m s → T (far x y) → false ≡ lives x y (cells_in m s)
lives_far m s x y h t =
    bool_same _ _ (λ z. absurd z)
    (λ l.
    let f = far_out (cells_in m s) x y l in let f0 = f.0 in let f1 = f.1 in let n = h.near in
    elim (far_size x y t) [ inl p ↦ absurd (omega arith) | inr p ↦ absurd (omega arith) ])

-- where a cell that stands in the list is found
pub place_holds : (m : List ℕ) (s : Stretch) (row col i k : ℕ) → Listed m s → Place m s row col i → k < s.len → row_at m s.at k ≡ row → col_at m s.at k ≡ col → i ≡ k
place_holds m s row col i k h p b er ec = go (dec_lt k i) (dec_lt i k)
  where
    go : Dec (k < i) → Dec (i < k) → i ≡ k
    go (yes l) d = elim (p.early k l) [ inl e ↦ absurd (omega arith) | inr e ↦ let e1 = e.1 in absurd (omega arith) ]
    go (no l) (yes d) =
        elim (p.late i (omega arith) (omega arith)) [
          | inl e ↦ elim (listed_order m s h i k d b) [ inl o ↦ absurd (omega arith) | inr o ↦ let o0 = o.0 in absurd (omega arith) ]
          | inr e ↦ let e0 = e.0 in let e1 = e.1 in elim (listed_order m s h i k d b) [ inl o ↦ absurd (omega arith) | inr o ↦ let o1 = o.1 in absurd (omega arith) ]
        ]
    go (no l) (no d) = omega arith

pub place_lives : (m : List ℕ) (s : Stretch) (row col i : ℕ) (x y : ℤ) (r : Bool) → Listed m s → Place m s row col i → to_z col ≡ x → to_z row ≡ y →
    MatchBool r (Holds m s i row col) (Holds m s i row col → ⊥) → r ≡ lives x y (cells_in m s)
place_lives m s row col i x y true h p ex ey (b, er, ec) =
    bool_same _ _
    (λ z. subst (λ (u : ℤ). T (lives u y (cells_in m s))) (ap to_z ec ∙ ex) (subst (λ (u : ℤ). T (lives (to_z (col_at m s.at i)) u (cells_in m s))) (ap to_z er ∙ ey) (listed_lives m s i b)))
    (λ z. tt)
place_lives m s row col i x y false h p ex ey n =
    bool_same _ _ (λ z. absurd z)
    (λ l.
    let k = listed_find m s x y l in let ec = to_z_inj _ _ (k.column ∙ sym ex) in let er = to_z_inj _ _ (k.row ∙ sym ey) in
    let e = place_holds m s row col i k.index h p k.high er ec in
    n (subst (λ (u : ℕ). Holds m s u row col) (sym e) (k.high, er, ec)))
