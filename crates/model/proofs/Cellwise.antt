-- A square with one state changed.
use Rattle.std.proofs.Common.{◌≡◌, ℕ, zero, suc, ◌-◌, ◌^◌, ◌<◌, ◌≤◌, Bool, false, cond, ◌&&◌, T, eqb, ltb, ◌⊎◌, ℤ, pos, ◌+ℤ◌, sym, ◌∙◌, subst, inl, inr, arith, ltb→lt, nltb→le}
use borrow.Author.Differences.{ints}
use Rattle.model.specs.Cells.{Cell, cell_at, same_z, same_cell, lives, put}
use Rattle.model.specs.Squares.{Square, Leaf, Four, level, state_at, with_state, within, cells_of}
use Rattle.model.specs.Promise.{PutRight}
use Rattle.model.proofs.Order.{decided, if_so, same_cell_out, lists_same}
use Rattle.model.proofs.Squares.{levels, level_four}
use Rattle.model.proofs.Shapes.{within_in, lying_in, lying_out, lying_same}
use Rattle.model.proofs.Put.{put_order, put_lives}
use Rattle.model.proofs.Runs.{cells_order, cells_lives}

-- ---- the quarter in which the state changes
pub with_nw : {S : Type 0} (k : ℕ) (a b c d : Square S) (x y : ℕ) (o : S) → x < 2 ^ k → y < 2 ^ k →
    with_state (suc k) (Four a b c d) x y o ≡ Four (with_state k a x y o) b c d
unfolding with_state
with_nw k a b c d x y o h g = grind arith

pub with_ne : {S : Type 0} (k : ℕ) (a b c d : Square S) (x y : ℕ) (o : S) → 2 ^ k ≤ x → y < 2 ^ k →
    with_state (suc k) (Four a b c d) x y o ≡ Four a (with_state k b (x - 2 ^ k) y o) c d
unfolding with_state
with_ne k a b c d x y o h g = grind arith

pub with_sw : {S : Type 0} (k : ℕ) (a b c d : Square S) (x y : ℕ) (o : S) → x < 2 ^ k → 2 ^ k ≤ y →
    with_state (suc k) (Four a b c d) x y o ≡ Four a b (with_state k c x (y - 2 ^ k) o) d
unfolding with_state
with_sw k a b c d x y o h g = grind arith

pub with_se : {S : Type 0} (k : ℕ) (a b c d : Square S) (x y : ℕ) (o : S) → 2 ^ k ≤ x → 2 ^ k ≤ y →
    with_state (suc k) (Four a b c d) x y o ≡ Four a b c (with_state k d (x - 2 ^ k) (y - 2 ^ k) o)
unfolding with_state
with_se k a b c d x y o h g = grind arith

-- a coordinate lies in the first half or in the second
pub side : (k x : ℕ) → (x < 2 ^ k) ⊎ (2 ^ k ≤ x)
side k x = elim (decided (ltb x (2 ^ k))) [ inl t ↦ inl (ltb→lt x (2 ^ k) t) | inr t ↦ inr (nltb→le x (2 ^ k) t) ]

-- ---- the level
pub level_with : {S : Type 0} (k : ℕ) (s : Square S) (x y : ℕ) (o : S) → T (level k s) → T (level k (with_state k s x y o))
unfolding level with_state
level_with zero (Leaf a) x y o l = tt
level_with zero (Four a b c d) x y o l = absurd l
level_with (suc k) (Leaf a) x y o l = absurd l
level_with {S = S} (suc k) (Four a b c d) x y o l =
    let m = levels k (Four a b c d) l in
    elim (side k y) [
      | inl g ↦ elim (side k x) [
        | inl h ↦ subst P (sym (with_nw k a b c d x y o h g)) (level_four k _ _ _ _ (level_with k a x y o m.lnw) m.lne m.lsw m.lse)
        | inr h ↦ subst P (sym (with_ne k a b c d x y o h g)) (level_four k _ _ _ _ m.lnw (level_with k b (x - 2 ^ k) y o m.lne) m.lsw m.lse)
      ]
      | inr g ↦ elim (side k x) [
        | inl h ↦ subst P (sym (with_sw k a b c d x y o h g)) (level_four k _ _ _ _ m.lnw m.lne (level_with k c x (y - 2 ^ k) o m.lsw) m.lse)
        | inr h ↦ subst P (sym (with_se k a b c d x y o h g)) (level_four k _ _ _ _ m.lnw m.lne m.lsw (level_with k d (x - 2 ^ k) (y - 2 ^ k) o m.lse))
      ]
    ]
  where
    P : Square S → Type 0
    P s = T (level (suc k) s)

-- ---- the states
-- the square t has the state o at x, y, and those of s elsewhere
abbrev pub Differs : {S : Type 0} (k : ℕ) (s t : Square S) (x y : ℕ) (o : S) → Type 0
Differs k s t x y o = (u v : ℕ) → u < 2 ^ k → v < 2 ^ k → state_at k t u v ≡ cond (eqb u x && eqb v y) o (state_at k s u v)

differs_nw : {S : Type 0} (k : ℕ) (a b c d z : Square S) (x y : ℕ) (o : S) → x < 2 ^ k → y < 2 ^ k → Differs k a z x y o → Differs (suc k) (Four a b c d) (Four z b c d) x y o
unfolding state_at
differs_nw k a b c d z x y o h g f u v l m =
    elim (side k v) [
      | inl q ↦ elim (side k u) [ inl p ↦ let e = f u v p q in grind arith | inr p ↦ grind arith ]
      | inr q ↦ grind arith
    ]

differs_ne : {S : Type 0} (k : ℕ) (a b c d z : Square S) (x y : ℕ) (o : S) → 2 ^ k ≤ x → y < 2 ^ k → Differs k b z (x - 2 ^ k) y o → Differs (suc k) (Four a b c d) (Four a z c d) x y o
unfolding state_at
differs_ne k a b c d z x y o h g f u v l m =
    elim (side k v) [
      | inl q ↦ elim (side k u) [ inl p ↦ grind arith | inr p ↦ let e = f (u - 2 ^ k) v (omega arith) q in grind arith ]
      | inr q ↦ grind arith
    ]

differs_sw : {S : Type 0} (k : ℕ) (a b c d z : Square S) (x y : ℕ) (o : S) → x < 2 ^ k → 2 ^ k ≤ y → Differs k c z x (y - 2 ^ k) o → Differs (suc k) (Four a b c d) (Four a b z d) x y o
unfolding state_at
differs_sw k a b c d z x y o h g f u v l m =
    elim (side k v) [
      | inl q ↦ grind arith
      | inr q ↦ elim (side k u) [ inl p ↦ let e = f u (v - 2 ^ k) p (omega arith) in grind arith | inr p ↦ grind arith ]
    ]

differs_se : {S : Type 0} (k : ℕ) (a b c d z : Square S) (x y : ℕ) (o : S) → 2 ^ k ≤ x → 2 ^ k ≤ y → Differs k d z (x - 2 ^ k) (y - 2 ^ k) o → Differs (suc k) (Four a b c d) (Four a b c z) x y o
unfolding state_at
differs_se k a b c d z x y o h g f u v l m =
    elim (side k v) [
      | inl q ↦ grind arith
      | inr q ↦ elim (side k u) [ inl p ↦ grind arith | inr p ↦ let e = f (u - 2 ^ k) (v - 2 ^ k) (omega arith) (omega arith) in grind arith ]
    ]

pub with_differs : {S : Type 0} (k : ℕ) (s : Square S) (x y : ℕ) (o : S) → T (level k s) → x < 2 ^ k → y < 2 ^ k → Differs k s (with_state k s x y o) x y o
unfolding level with_state state_at
with_differs zero (Leaf a) x y o l h g u v p q = grind arith
with_differs zero (Four a b c d) x y o l h g u v p q = absurd l
with_differs (suc k) (Leaf a) x y o l h g u v p q = absurd l
with_differs {S = S} (suc k) (Four a b c d) x y o l h g u v p q =
    let m = levels k (Four a b c d) l in
    elim (side k y) [
      | inl j ↦ elim (side k x) [
        | inl i ↦ subst P (sym (with_nw k a b c d x y o i j)) (differs_nw k a b c d (with_state k a x y o) x y o i j (with_differs k a x y o m.lnw i j) u v p q)
        | inr i ↦ subst P (sym (with_ne k a b c d x y o i j)) (differs_ne k a b c d (with_state k b (x - 2 ^ k) y o) x y o i j (with_differs k b (x - 2 ^ k) y o m.lne (omega arith) j) u v p q)
      ]
      | inr j ↦ elim (side k x) [
        | inl i ↦ subst P (sym (with_sw k a b c d x y o i j)) (differs_sw k a b c d (with_state k c x (y - 2 ^ k) o) x y o i j (with_differs k c x (y - 2 ^ k) o m.lsw i (omega arith)) u v p q)
        | inr i ↦ subst P (sym (with_se k a b c d x y o i j)) (differs_se k a b c d (with_state k d (x - 2 ^ k) (y - 2 ^ k) o) x y o i j (with_differs k d (x - 2 ^ k) (y - 2 ^ k) o m.lse (omega arith) (omega arith)) u v p q)
      ]
    ]
  where
    P : Square S → Type 0
    P t = state_at (suc k) t u v ≡ cond (eqb u x && eqb v y) o (state_at (suc k) (Four a b c d) u v)

-- ---- the list
same_shifted : (a : ℤ) (x u : ℕ) → same_z (a +ℤ pos x) (a +ℤ pos u) ≡ eqb u x
same_shifted a x u = grind (arith, ints)

pub put_cells : (k : ℕ) (s : Square Bool) (x y : ℕ) (o : Bool) → T (level k s) → x < 2 ^ k → y < 2 ^ k → (a b : ℤ) →
    cells_of k (with_state k s x y o) a b ≡ put (cell_at (a +ℤ pos x) (b +ℤ pos y)) o (cells_of k s a b)
put_cells k s x y o l h g a b =
    let c = cell_at (a +ℤ pos x) (b +ℤ pos y) in let t = with_state k s x y o in
    let cs = cells_of k s a b in let ds = put c o cs in
    let ord = cells_order k s a b in
    sym (lists_same ds (cells_of k t a b) (put_order c o cs ord) (cells_order k t a b) (λ z w.
    lying_same false k t a b (λ z w. lives z w ds)
    (λ u v p q.
    put_lives cs ord c o (a +ℤ pos u) (b +ℤ pos v) ∙
    (λ i. cond (same_shifted a x u i && same_shifted b y v i) o ((cells_lives k s a b (a +ℤ pos u) (b +ℤ pos v) ∙ lying_in false k s a b u v p q) i)) ∙
    sym (with_differs k s x y o l h g u v p q))
    (λ z w n.
    put_lives cs ord c o z w ∙
    if_so (λ (r : Bool). r ≡ false) (same_cell c (cell_at z w)) o (lives z w cs)
    (λ t.
    let e = same_cell_out c (cell_at z w) t in
    absurd (n (subst (λ (d : Cell). T (within k a d.x)) e (within_in k a x h)) (subst (λ (d : Cell). T (within k b d.y)) e (within_in k b y g))))
    (λ _. cells_lives k s a b z w ∙ lying_out false k s a b z w n))
    z w ∙
    sym (cells_lives k t a b z w)))

pub put_right : PutRight
put_right k s x y o l h g = (level_with k s x y o l, with_differs k s x y o l h g, put_cells k s x y o l h g)
