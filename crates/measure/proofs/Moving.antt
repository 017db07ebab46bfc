-- Whether the list of a stretch is that of another one moved.
use Rattle.std.proofs.Common.{◌≡◌, ℕ, zero, suc, ◌-◌, ◌<◌, ◌≢◌, List, ◌∷◌, length, get_or, Bool, true, false, ◌&&◌, int_eq, ℤ, pos, ◌+ℤ◌, neg_ℤ, Option, sym, refl, ap, subst, ◌∙◌, inl, inr, arith}
use Rattle.std.specs.Bool.{MatchBool, then_some}
use Rattle.std.specs.List.{AllWithin, HoldsAt, range_with_len}
use Rattle.std.proofs.lemmas.List.FromFn.{get_or-range_with_len, length-range_with_len}
use borrow.Author.Differences.{ints}
use mathlib.Core.Bool.{true≢false}
use Rattle.std.specs.Cmp.{signed_Decides}
use Rattle.model.specs.declared.Cell.{Cell}
use Rattle.model.specs.declared.Period.{Period}
use Rattle.model.specs.Cells.{cell_at, moved}
use Rattle.model.specs.World.{returned}
use Rattle.model.proofs.Moves.{length_moved}
use Rattle.model.proofs.Periods.{period_of, returned_is}
use Rattle.lent.specs.declared.Stretch.{Stretch}
use Rattle.lent.specs.Stretches.{tab, entry, cells_in}
use Rattle.lent.proofs.Tab.{tab_length, tab_same}
use Rattle.measure.specs.declared.Shift.{Shift}
use Rattle.measure.specs.Shifts.{shift_of, shift_period}
use Rattle.measure.proofs.Compare.{tab_at}

abbrev moved_cell : ℤ → ℤ → (ℕ → Cell) → ℕ → Cell
moved_cell dx dy f k = cell_at ((f k).x +ℤ dx) ((f k).y +ℤ dy)

tab_moved : (dx dy : ℤ) (f : ℕ → Cell) (i n : ℕ) → moved dx dy (tab f i n) ≡ tab (moved_cell dx dy f) i n
unfolding tab moved
tab_moved dx dy f i zero = refl
tab_moved dx dy f i (suc n) = ap (λ (cs : List Cell). moved_cell dx dy f i ∷ cs) (tab_moved dx dy f (suc i) n)

-- one cell moved onto another, by their difference
apart : (p q d : ℤ) → p ≡ q +ℤ d → p +ℤ neg_ℤ q ≡ d
apart p q d e = omega (arith, ints)

across : (p q : ℤ) → p ≡ q +ℤ (p +ℤ neg_ℤ q)
across p q = omega (arith, ints)

pub same_shift : (d e : Shift) → true ≡ (int_eq d.dx e.dx && int_eq d.dy e.dy) → d ≡ e
same_shift d e h =
    let b = both (int_eq d.dx e.dx) (int_eq d.dy e.dy) h in let x = (signed_Decides d.dx e.dx).0 b.0 in let y = (signed_Decides d.dy e.dy).0 b.1 in
    λ i. record { dx = x i; dy = y i }
  where
    both : (p q : Bool) → true ≡ (p && q) → (p ≡ true) × (q ≡ true)
    both true true k = (refl, refl)
    both true false k = absurd (true≢false k)
    both false q k = absurd (true≢false k)

pub other_shift : (d e : Shift) → false ≡ (int_eq d.dx e.dx && int_eq d.dy e.dy) → d ≢ e
other_shift d e h q =
    let x = (signed_Decides d.dx e.dx).1 (ap (λ (z : Shift). z.dx) q) in let y = (signed_Decides d.dy e.dy).1 (ap (λ (z : Shift). z.dy) q) in
    true≢false (sym (h ∙ (λ i. x i && y i)))

pub seen_same : {p q u v : Cell} {s d : Shift} → s ≡ shift_of u v → u ≡ p → v ≡ q → true ≡ (int_eq s.dx d.dx && int_eq s.dy d.dy) → shift_of p q ≡ d
seen_same {s = s} {d = d} e f g h = sym (e ∙ (λ i. shift_of (f i) (g i))) ∙ same_shift s d h

pub seen_other : {p q u v : Cell} {s d : Shift} → s ≡ shift_of u v → u ≡ p → v ≡ q → false ≡ (int_eq s.dx d.dx && int_eq s.dy d.dy) → shift_of p q ≡ d → ⊥
seen_other {s = s} {d = d} e f g h k = other_shift s d h (e ∙ (λ i. shift_of (f i) (g i)) ∙ k)

module _ (m m' : List ℕ) (a b : Stretch) where
  pub none_length : a.len ≢ b.len → (t : ℕ) (go : Option Period) → returned t (cells_in m a) (cells_in m' b) go ≡ go
  none_length ne t go =
      elim (returned_is t (cells_in m a) (cells_in m' b) go) [
        | inl h ↦
            absurd (ne (sym (sym (tab_length (entry m' b.at) 0 b.len) ∙ ap length h.2 ∙ length_moved h.0 h.1 (cells_in m a) ∙ tab_length (entry m a.at) 0 a.len)))
        | inr h ↦ h.1
      ]

  -- a moved list is so cell by cell
  moved_at : (dx dy : ℤ) → a.len ≡ b.len → cells_in m' b ≡ moved dx dy (cells_in m a) → (k : ℕ) → k < a.len →
      shift_of (entry m a.at k) (entry m' b.at k) ≡ record { dx = dx; dy = dy }
  moved_at dx dy e all k h =
      let all' : tab (entry m' b.at) 0 a.len ≡ tab (moved_cell dx dy (entry m a.at)) 0 a.len =
      ap (λ (n : ℕ). tab (entry m' b.at) 0 n) e ∙ all ∙ tab_moved dx dy (entry m a.at) 0 a.len in
      let c = tab_at (entry m' b.at) (moved_cell dx dy (entry m a.at)) 0 a.len all' k (omega arith) (omega arith) in
      let x = apart _ _ dx (ap (λ (z : Cell). z.x) c) in let y = apart _ _ dy (ap (λ (z : Cell). z.y) c) in
      λ i. record { dx = x i; dy = y i }

  pub none_cell : (i : ℕ) → a.len ≡ b.len → i < a.len → shift_of (entry m a.at i) (entry m' b.at i) ≢ shift_of (entry m a.at 0) (entry m' b.at 0) →
      (t : ℕ) (go : Option Period) → returned t (cells_in m a) (cells_in m' b) go ≡ go
  none_cell i e h ne t go =
      elim (returned_is t (cells_in m a) (cells_in m' b) go) [
        | inl k ↦ absurd (ne (moved_at k.0 k.1 e k.2 i h ∙ sym (moved_at k.0 k.1 e k.2 0 (omega arith))))
        | inr k ↦ k.1
      ]

  moved_all : (d : Shift) → a.len ≡ b.len → ((k : ℕ) → k < a.len → shift_of (entry m a.at k) (entry m' b.at k) ≡ d) → cells_in m' b ≡ moved d.dx d.dy (cells_in m a)
  moved_all d e h =
      ap (λ (n : ℕ). tab (entry m' b.at) 0 n) (sym e) ∙
      tab_same (entry m' b.at) (moved_cell d.dx d.dy (entry m a.at)) 0 a.len
      (λ k l p.
      let q = h k (omega arith) in let u = entry m a.at k in let v = entry m' b.at k in
      let x = across v.x u.x ∙ ap (λ (z : Shift). u.x +ℤ z.dx) q in let y = across v.y u.y ∙ ap (λ (z : Shift). u.y +ℤ z.dy) q in
      λ i. cell_at (x i) (y i)) ∙
      sym (tab_moved d.dx d.dy (entry m a.at) 0 a.len)

  pub some_moved : (d : Shift) → a.len ≡ b.len → 0 < a.len → ((k : ℕ) → k < a.len → shift_of (entry m a.at k) (entry m' b.at k) ≡ d) →
      (t : ℕ) (go : Option Period) → returned t (cells_in m a) (cells_in m' b) go ≡ period_of t d.dx d.dy
  some_moved d e l h t go =
      elim (returned_is t (cells_in m a) (cells_in m' b) go) [
        | inl k ↦ let s = sym (moved_at k.0 k.1 e k.2 0 l) ∙ h 0 l in k.3 ∙ ap (λ (z : Shift). period_of t z.dx z.dy) s
        | inr k ↦ absurd (k.0 d.dx d.dy (moved_all d e h))
      ]

  pub some_empty : a.len ≡ 0 → b.len ≡ 0 → (t : ℕ) (go : Option Period) → returned t (cells_in m a) (cells_in m' b) go ≡ period_of t (pos 0) (pos 0)
  unfolding tab
  some_empty p q t go = λ i. returned t (tab (entry m a.at) 0 (p i)) (tab (entry m' b.at) 0 (q i)) go

  -- what a test of all cells but the first one tells
  pub answered : (d : Shift) (r : Bool) (o : Option Shift) → a.len ≡ b.len → 0 < a.len → shift_of (entry m a.at 0) (entry m' b.at 0) ≡ d → o ≡ then_some r d →
      (let is = λ (i : ℕ). shift_of (entry m a.at i) (entry m' b.at i) ≡ d in let xs = range_with_len 1 (a.len - 1) in
      MatchBool r (AllWithin is xs 0 (length xs)) ((k : ℕ) × (k < length xs) × HoldsAt (λ i. is i → ⊥) xs k)) →
      (t : ℕ) (go : Option Period) → returned t (cells_in m a) (cells_in m' b) go ≡ shift_period t o go
  answered d true o e l first q h t go = some_moved d e l each t go ∙ (λ i. shift_period t (sym q i) go)
    where
      each : (k : ℕ) → k < a.len → shift_of (entry m a.at k) (entry m' b.at k) ≡ d
      each zero g = first
      each (suc j) g =
          let n = length-range_with_len 1 (a.len - 1) in let w = get_or-range_with_len 1 (a.len - 1) j 0 (omega arith) in let z : get_or (range_with_len 1 (a.len - 1)) j 0 ≡ suc j = omega (arith, w) in
          subst (λ (i : ℕ). shift_of (entry m a.at i) (entry m' b.at i) ≡ d) z (h j 0 (omega arith) (omega (arith, n)))
  answered d false o e l first q h t go =
      let k = h.0 in let n = length-range_with_len 1 (a.len - 1) in let g = h.1 in let xs = range_with_len 1 (a.len - 1) in
      let z = get_or-range_with_len 1 (a.len - 1) k 0 (omega (arith, n, g)) in
      none_cell (get_or xs k 0) e (omega (arith, n, g, z)) (λ u. h.2 0 (u ∙ first)) t go ∙ (λ i. shift_period t (sym q i) go)
