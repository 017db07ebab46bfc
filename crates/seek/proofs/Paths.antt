-- The quarter in which a cell lies, and where it lies in it.
use Rattle.std.proofs.Common.{◌≡◌, ℕ, zero, suc, ◌+◌, ◌-◌, ◌/◌, ◌%◌, ◌^◌, ◌<◌, ◌≤◌, Bool, sym, ◌∙◌, subst, inl, inr, mod-lt, mod-eq_of_lt, arith, pow_pos}
use native.Mathlib.Nat.{div-eq_of_lt, div-eq_of_lt-le, mod-eq-sub-mod}
use Rattle.model.specs.Squares.{Square, Four, nw, ne, sw, se, state_at, with_state}
use Rattle.model.proofs.Cellwise.{side, with_nw, with_ne, with_sw, with_se}
use Rattle.model.proofs.Shapes.{build_right}
use Rattle.leaf.specs.Words.{cell_in}
use Rattle.leaf.specs.AsSquares.{word_square}
use Rattle.slots.specs.declared.Store.{Store}
use Rattle.slots.specs.Stores.{Is}
use Rattle.pieces.specs.Nine.{quarter_at}
use Rattle.pieces.proofs.Nine.{four_of_lem}

-- a coordinate in the first or in the second half
low : (h x : ℕ) → x < h → (x / h ≡ 0) × (x % h ≡ x)
low h x l = (div-eq_of_lt l, mod-eq_of_lt l)

high : (h x : ℕ) → h ≤ x → x < h + h → (x / h ≡ 1) × (x % h ≡ x - h)
high h x l m = (div-eq_of_lt-le h (omega arith) (omega arith), mod-eq-sub-mod l ∙ mod-eq_of_lt (omega arith))

state_quarter : (k : ℕ) (a b c d : Square Bool) (x y : ℕ) → x < 2 ^ suc k → y < 2 ^ suc k →
    state_at (suc k) (Four a b c d) x y ≡ state_at k (quarter_at (y / 2 ^ k) (x / 2 ^ k) (Four a b c d)) (x % 2 ^ k) (y % 2 ^ k)
unfolding state_at
state_quarter k a b c d x y h g =
    elim (side k y) [
      | inl j ↦ elim (side k x) [
        | inl i ↦ (let e : state_at (suc k) (Four a b c d) x y ≡ state_at k a x y = grind arith in e) ∙ at (low (2 ^ k) x i) (low (2 ^ k) y j)
        | inr i ↦ (let e : state_at (suc k) (Four a b c d) x y ≡ state_at k b (x - 2 ^ k) y = grind arith in e) ∙ at (high (2 ^ k) x i (omega arith)) (low (2 ^ k) y j)
      ]
      | inr j ↦ elim (side k x) [
        | inl i ↦ (let e : state_at (suc k) (Four a b c d) x y ≡ state_at k c x (y - 2 ^ k) = grind arith in e) ∙ at (low (2 ^ k) x i) (high (2 ^ k) y j (omega arith))
        | inr i ↦ (let e : state_at (suc k) (Four a b c d) x y ≡ state_at k d (x - 2 ^ k) (y - 2 ^ k) = grind arith in e) ∙ at (high (2 ^ k) x i (omega arith)) (high (2 ^ k) y j (omega arith))
      ]
    ]
  where
    at : {m n u v : ℕ} → (x / 2 ^ k ≡ n) × (x % 2 ^ k ≡ u) → (y / 2 ^ k ≡ m) × (y % 2 ^ k ≡ v) →
        state_at k (quarter_at m n (Four a b c d)) u v ≡ state_at k (quarter_at (y / 2 ^ k) (x / 2 ^ k) (Four a b c d)) (x % 2 ^ k) (y % 2 ^ k)
    at p q = λ i. state_at k (quarter_at (sym q.0 i) (sym p.0 i) (Four a b c d)) (sym p.1 i) (sym q.1 i)

-- the square with z in place of the quarter in this row and column
abbrev pub replaced : (row column : ℕ) → Square Bool → Square Bool → Square Bool
replaced zero zero z q = Four z (ne q) (sw q) (se q)
replaced zero (suc c) z q = Four (nw q) z (sw q) (se q)
replaced (suc r) zero z q = Four (nw q) (ne q) z (se q)
replaced (suc r) (suc c) z q = Four (nw q) (ne q) (sw q) z

pub with_quarter_lem : (k : ℕ) (a b c d : Square Bool) (x y : ℕ) (o : Bool) → x < 2 ^ suc k → y < 2 ^ suc k →
    replaced (y / 2 ^ k) (x / 2 ^ k) (with_state k (quarter_at (y / 2 ^ k) (x / 2 ^ k) (Four a b c d)) (x % 2 ^ k) (y % 2 ^ k) o) (Four a b c d) ≡ with_state (suc k) (Four a b c d) x y o
with_quarter_lem k a b c d x y o h g =
    elim (side k y) [
      | inl j ↦ elim (side k x) [
        | inl i ↦ at (low (2 ^ k) x i) (low (2 ^ k) y j) ∙ sym (with_nw k a b c d x y o i j)
        | inr i ↦ at (high (2 ^ k) x i (omega arith)) (low (2 ^ k) y j) ∙ sym (with_ne k a b c d x y o i j)
      ]
      | inr j ↦ elim (side k x) [
        | inl i ↦ at (low (2 ^ k) x i) (high (2 ^ k) y j (omega arith)) ∙ sym (with_sw k a b c d x y o i j)
        | inr i ↦ at (high (2 ^ k) x i (omega arith)) (high (2 ^ k) y j (omega arith)) ∙ sym (with_se k a b c d x y o i j)
      ]
    ]
  where
    at : {m n u v : ℕ} → (x / 2 ^ k ≡ n) × (x % 2 ^ k ≡ u) → (y / 2 ^ k ≡ m) × (y % 2 ^ k ≡ v) →
        replaced (y / 2 ^ k) (x / 2 ^ k) (with_state k (quarter_at (y / 2 ^ k) (x / 2 ^ k) (Four a b c d)) (x % 2 ^ k) (y % 2 ^ k) o) (Four a b c d) ≡
        replaced m n (with_state k (quarter_at m n (Four a b c d)) u v o) (Four a b c d)
    at p q = λ i. replaced (q.0 i) (p.0 i) (with_state k (quarter_at (q.0 i) (p.0 i) (Four a b c d)) (p.1 i) (q.1 i) o) (Four a b c d)

-- the state at x, y of a square of depth d, from its quarter
pub quarter_state : (s : Store) (d p i : ℕ) (q : Square Bool) (x y h : ℕ) → d ≡ suc p → h ≡ 2 ^ suc (suc (suc p)) → x < 2 ^ suc (suc (suc d)) → y < 2 ^ suc (suc (suc d)) → Is s d i q →
    state_at (suc (suc (suc p))) (quarter_at (y / h) (x / h) q) (x % h) (y % h) ≡ state_at (suc (suc (suc d))) q x y
quarter_state s d p i q x y h z e l m a =
    let k = suc (suc (suc p)) in
    let f = four_of_lem s p i q (subst (λ (d : ℕ). Is s d i q) z a) in
    let n : suc (suc (suc d)) ≡ suc k = omega arith in
    let g = subst (λ (q : Square Bool). state_at (suc k) q x y ≡ state_at k (quarter_at (y / 2 ^ k) (x / 2 ^ k) q) (x % 2 ^ k) (y % 2 ^ k)) (sym f)
    (state_quarter k _ _ _ _ x y (subst (λ (j : ℕ). x < 2 ^ j) n l) (subst (λ (j : ℕ). y < 2 ^ j) n m)) in
    (λ t. state_at k (quarter_at (y / e t) (x / e t) q) (x % e t) (y % e t)) ∙ sym g ∙ (λ t. state_at (sym n t) q x y)

pub word_state : (w x y : ℕ) → x < 8 → y < 8 → cell_in w x y ≡ state_at 3 (word_square w) x y
word_state w x y a b = sym ((build_right 3 (cell_in w)).1 x y a b)

pub leaf_within : (d x : ℕ) → d ≡ 0 → x < 2 ^ suc (suc (suc d)) → x < 8
leaf_within d x z l = subst (λ (d : ℕ). x < 2 ^ suc (suc (suc d))) z l

pub rest_within : (x h p : ℕ) → h ≡ 2 ^ suc (suc (suc p)) → x % h < 2 ^ suc (suc (suc p))
rest_within x h p e = subst (λ (k : ℕ). x % h < k) e (mod-lt x (let l = pow_pos p in omega arith))
