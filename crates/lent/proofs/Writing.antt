-- A cell written into a stretch, and what stays beside it.
use mathlib.Core.Path.{◌≡◌, refl, sym, ap, subst, ◌∙◌}
use mathlib.Core.List.{List, [], ◌∷◌, ◌++◌}
use mathlib.Core.Logic.{inl, inr, ◌≢◌}
use Prim.Native.Nat.{ℕ, suc, ◌+◌, ◌*◌, ◌<◌, ◌≤◌}
use native.Mathlib.Omega.{arith}
use lib.ListN.{length, get_or, set, length-set}
use lib.Seq.{get_or-set_same, get_or-set_other}
use Rattle.model.specs.Cells.{cell_at}
use Rattle.lent.specs.declared.Stretch.{Stretch}
use Rattle.lent.specs.Stretches.{to_z, tab, row_at, col_at, entry, cells_in, with_entry, room_words, room_cells, Listed, Beside, Apart}
use Rattle.lent.proofs.Tab.{tab_same, tab_more}

pub written_length : (m : List ℕ) (at i row col : ℕ) → length (with_entry m at i row col) ≡ length m
written_length m at i row col = simp length-set

written_other : (m : List ℕ) (at i row col k : ℕ) → k ≢ (at + 2 * i) → k ≢ (at + 2 * i + 1) → get_or (with_entry m at i row col) k 0 ≡ get_or m k 0
written_other m at i row col k p q = rw get_or-set_other (rw get_or-set_other refl)

pub written_row : (m : List ℕ) (at i row col : ℕ) → at + 2 * i < length m → row_at (with_entry m at i row col) at i ≡ row
written_row m at i row col h = let ne : (at + 2 * i) ≢ (at + 2 * i + 1) = omega arith in rw get_or-set_other (rw get_or-set_same refl)

pub written_col : (m : List ℕ) (at i row col : ℕ) → at + 2 * i + 1 < length m → col_at (with_entry m at i row col) at i ≡ col
written_col m at i row col h = let l : at + 2 * i + 1 < length (set m (at + 2 * i) row) = rw length-set h in rw get_or-set_same refl

pub written_here : (m : List ℕ) (at i row col : ℕ) → at + 2 * i + 1 < length m → entry (with_entry m at i row col) at i ≡ cell_at (to_z col) (to_z row)
written_here m at i row col h =
    let r = written_row m at i row col (omega arith) in let c = written_col m at i row col h in λ t. cell_at (to_z (c t)) (to_z (r t))

pub written_entry : (m : List ℕ) (at i row col k : ℕ) → k ≢ i → entry (with_entry m at i row col) at k ≡ entry m at k
written_entry m at i row col k p =
    let r = written_other m at i row col (at + 2 * k) (λ e. p (omega arith)) (λ e. omega arith) in
    let c = written_other m at i row col (at + 2 * k + 1) (λ e. omega arith) (λ e. p (omega arith)) in λ t. cell_at (to_z (c t)) (to_z (r t))

-- one cell more at the end
pub written_more : (m : List ℕ) (at n row col : ℕ) → at + 2 * n + 1 < length m →
    tab (entry (with_entry m at n row col) at) 0 (suc n) ≡ tab (entry m at) 0 n ++ (cell_at (to_z col) (to_z row) ∷ [])
written_more m at n row col h =
    let f = entry (with_entry m at n row col) at in
    let e : tab f 0 n ≡ tab (entry m at) 0 n = tab_same f (entry m at) 0 n (λ k a b. written_entry m at n row col k (λ z. omega arith)) in
    let z : 0 + n ≡ n = omega arith in let w = ap f z ∙ written_here m at n row col h in
    tab_more f 0 n ∙ (λ t. e t ++ (w t ∷ []))

pub beside_refl : (at : ℕ) (m : List ℕ) → Beside at m m
beside_refl at m = record { long = refl; others = λ k h. refl }

pub beside_trans : {at : ℕ} {a b c : List ℕ} → Beside at a b → Beside at b c → Beside at a c
beside_trans p q = record { long = q.long ∙ p.long; others = λ k h. q.others k h ∙ p.others k h }

pub written_beside : (m : List ℕ) (at i row col : ℕ) → i < room_cells → Beside at m (with_entry m at i row col)
written_beside m at i row col h =
    record {
      long = written_length m at i row col;
      others = λ k o. elim o [
        | inl l ↦ written_other m at i row col k (λ e. omega arith) (λ e. omega arith)
        | inr l ↦ written_other m at i row col k (λ e. omega arith) (λ e. omega arith)
      ];
    }

-- a list in a stretch that shares no word with the written one
pub beside_word : {at : ℕ} {m m' : List ℕ} → Beside at m m' → (b : ℕ) → Apart b at → (j : ℕ) → j < room_words → get_or m' (b + j) 0 ≡ get_or m (b + j) 0
beside_word h b a j l = elim a [ inl p ↦ h.others (b + j) (inl (omega arith)) | inr p ↦ h.others (b + j) (inr (omega arith)) ]

pub beside_entry : {at : ℕ} {m m' : List ℕ} → Beside at m m' → (b : ℕ) → Apart b at → (k : ℕ) → k < room_cells →
    (row_at m' b k ≡ row_at m b k) × (col_at m' b k ≡ col_at m b k)
beside_entry {at} {m} {m'} h b a k l =
    let e : b + 2 * k + 1 ≡ b + (2 * k + 1) = omega arith in
    (beside_word h b a (2 * k) (omega arith), subst (λ (u : ℕ). get_or m' u 0 ≡ get_or m u 0) (sym e) (beside_word h b a (2 * k + 1) (omega arith)))

pub beside_cells : {at : ℕ} {m m' : List ℕ} → Beside at m m' → (s : Stretch) → Apart s.at at → s.len ≤ room_cells → cells_in m' s ≡ cells_in m s
beside_cells h s a l =
    tab_same _ _ 0 s.len (λ k p q. let e = beside_entry h s.at a k (omega arith) in λ t. cell_at (to_z (e.1 t)) (to_z (e.0 t)))

pub beside_listed : {at : ℕ} {m m' : List ℕ} → Beside at m m' → (s : Stretch) → Apart s.at at → Listed m s → Listed m' s
beside_listed h s a l =
    let e = beside_cells h s a l.few in let w = l.within in let g = h.long in
    record { within = omega arith; few = l.few; ordered = rw e l.ordered; near = rw e l.near }
