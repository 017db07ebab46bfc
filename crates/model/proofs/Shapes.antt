-- Squares are told by their cells; squares that are built, or padded; and squares that lie in a plane.
use Rattle.std.proofs.Common.{◌≡◌, ℕ, zero, suc, ◌+◌, ◌^◌, ◌<◌, Bool, true, false, cond, ◌&&◌, T, ℤ, pos, ◌+ℤ◌, neg_ℤ, sym, refl, ap, ◌∙◌, inl, inr, arith, T_not}
use borrow.Author.Differences.{ints}
use lib.Signed.{le_z, lt_z}
use Rattle.model.specs.Planes.{Plane}
use Rattle.model.specs.World.{size}
use Rattle.model.specs.Squares.{Square, Leaf, Four, level, state_at, build, plain, within, lying}
use Rattle.model.specs.Promise.{SquaresSame, BuildRight}
use Rattle.model.proofs.Order.{and_l, and_r, and_in, decided}
use Rattle.model.proofs.Lists.{Of}
use Rattle.model.proofs.Squares.{At, state_nw, state_ne, state_sw, state_se, four, levels, leaf_at}

pub squares_same : {S : Type 0} → SquaresSame S
unfolding level state_at
squares_same zero (Leaf a) (Leaf b) l m f = ap Leaf (f 0 0 (omega arith) (omega arith))
squares_same zero (Leaf a) (Four b c d e) l m f = absurd m
squares_same zero (Four a b c d) t l m f = absurd l
squares_same (suc k) (Leaf a) t l m f = absurd l
squares_same (suc k) (Four a b c d) (Leaf e) l m f = absurd m
squares_same (suc k) (Four a b c d) (Four a' b' c' d') l m f =
    let u = levels k (Four a b c d) l in let v = levels k (Four a' b' c' d') m in
    let p = squares_same k a a' u.lnw v.lnw (λ x y h g.
    sym (state_nw k a b c d x y h g) ∙ f x y (omega arith) (omega arith) ∙ state_nw k a' b' c' d' x y h g) in
    let q = squares_same k b b' u.lne v.lne (λ x y h g.
    sym (state_ne k a b c d x y g) ∙ f (2 ^ k + x) y (omega arith) (omega arith) ∙ state_ne k a' b' c' d' x y g) in
    let r = squares_same k c c' u.lsw v.lsw (λ x y h g.
    sym (state_sw k a b c d x y h) ∙ f x (2 ^ k + y) (omega arith) (omega arith) ∙ state_sw k a' b' c' d' x y h) in
    let s = squares_same k d d' u.lse v.lse (λ x y h g.
    sym (state_se k a b c d x y) ∙ f (2 ^ k + x) (2 ^ k + y) (omega arith) (omega arith) ∙ state_se k a' b' c' d' x y) in
    λ i. Four (p i) (q i) (r i) (s i)

-- a plane with these states shows the square that is built of them
pub build_at : {S : Type 0} (k : ℕ) (f : ℕ → ℕ → S) (p : Plane S) (i j : ℕ) →
    ((x y : ℕ) → x < 2 ^ k → y < 2 ^ k → p (pos (i + x)) (pos (j + y)) ≡ f x y) → At k (build k f) p i j
unfolding build
build_at zero f p i j h = leaf_at (h 0 0 (omega arith) (omega arith)) (omega arith) (omega arith)
build_at (suc k) f p i j h =
    let e : (m x : ℕ) → m + 2 ^ k + x ≡ m + (2 ^ k + x) = λ m x. omega arith in
    four (build_at k f p i j (λ x y a b. h x y (omega arith) (omega arith)))
    (build_at k (λ x y. f (2 ^ k + x) y) p (i + 2 ^ k) j (λ x y a b. (λ m. p (pos (e i x m)) (pos (j + y))) ∙ h (2 ^ k + x) y (omega arith) (omega arith)))
    (build_at k (λ x y. f x (2 ^ k + y)) p i (j + 2 ^ k) (λ x y a b. (λ m. p (pos (i + x)) (pos (e j y m))) ∙ h x (2 ^ k + y) (omega arith) (omega arith)))
    (build_at k (λ x y. f (2 ^ k + x) (2 ^ k + y)) p (i + 2 ^ k) (j + 2 ^ k) (λ x y a b.
    (λ m. p (pos (e i x m)) (pos (e j y m))) ∙ h (2 ^ k + x) (2 ^ k + y) (omega arith) (omega arith)))

pub build_right : {S : Type 0} → BuildRight S
build_right k f =
    let z : (x : ℕ) → 0 + x ≡ x = λ x. omega arith in
    let q = build_at k f (λ x y. f (size x) (size y)) 0 0 (λ x y h g. λ m. f (z x m) (z y m)) in
    (q.lev, λ x y h g. sym (q.at x y h g) ∙ (λ m. f (z x m) (z y m)))

pub plain_at : {S : Type 0} (o : S) (k : ℕ) (p : Plane S) (i j : ℕ) → ((x y : ℕ) → x < 2 ^ k → y < 2 ^ k → p (pos (i + x)) (pos (j + y)) ≡ o) → At k (plain o k) p i j
unfolding plain
plain_at o zero p i j h = leaf_at (h 0 0 (omega arith) (omega arith)) (omega arith) (omega arith)
plain_at o (suc k) p i j h =
    let e : (m x : ℕ) → m + 2 ^ k + x ≡ m + (2 ^ k + x) = λ m x. omega arith in
    four (plain_at o k p i j (λ x y a b. h x y (omega arith) (omega arith)))
    (plain_at o k p (i + 2 ^ k) j (λ x y a b. (λ m. p (pos (e i x m)) (pos (j + y))) ∙ h (2 ^ k + x) y (omega arith) (omega arith)))
    (plain_at o k p i (j + 2 ^ k) (λ x y a b. (λ m. p (pos (i + x)) (pos (e j y m))) ∙ h x (2 ^ k + y) (omega arith) (omega arith)))
    (plain_at o k p (i + 2 ^ k) (j + 2 ^ k) (λ x y a b. (λ m. p (pos (e i x m)) (pos (e j y m))) ∙ h (2 ^ k + x) (2 ^ k + y) (omega arith) (omega arith)))

-- ---- a square that lies in a plane
pub within_of : (k : ℕ) (a x : ℤ) → T (within k a x) → Of a (2 ^ k) x
within_of k a x t = (record { le = and_l (le_z a x) (lt_z x (a +ℤ pos (2 ^ k))) t }, record { lt = and_r (le_z a x) (lt_z x (a +ℤ pos (2 ^ k))) t })

pub of_within : (k : ℕ) (a x : ℤ) → Of a (2 ^ k) x → T (within k a x)
of_within k a x h = and_in (le_z a x) (lt_z x (a +ℤ pos (2 ^ k))) h.0.le h.1.lt

of_size : (m : ℕ) (a x : ℤ) → Of a m x → size (x +ℤ neg_ℤ a) < m
of_size m a x h = grind (arith, ints)

of_same : (m : ℕ) (a x : ℤ) → Of a m x → x ≡ a +ℤ pos (size (x +ℤ neg_ℤ a))
of_same m a x h = grind (arith, ints)

pub within_out : (k : ℕ) (a x : ℤ) → T (within k a x) → (u : ℕ) × (u < 2 ^ k) × (x ≡ a +ℤ pos u)
within_out k a x t = let h = within_of k a x t in (size (x +ℤ neg_ℤ a), of_size (2 ^ k) a x h, of_same (2 ^ k) a x h)

pub within_in : (k : ℕ) (a : ℤ) (u : ℕ) → u < 2 ^ k → T (within k a (a +ℤ pos u))
within_in k a u h = and_in (le_z a (a +ℤ pos u)) (lt_z (a +ℤ pos u) (a +ℤ pos (2 ^ k))) (omega (arith, ints)) (omega (arith, ints))

size_of : (a : ℤ) (u : ℕ) → size (a +ℤ pos u +ℤ neg_ℤ a) ≡ u
size_of a u = let e : a +ℤ pos u +ℤ neg_ℤ a ≡ pos u = omega (arith, ints) in ap size e

cond_yes : {A : Type 0} (b : Bool) (x y : A) → T b → cond b x y ≡ x
cond_yes true x y t = refl
cond_yes false x y t = absurd t

cond_no : {A : Type 0} (b : Bool) (x y : A) → (T b → ⊥) → cond b x y ≡ y
cond_no true x y t = absurd (t tt)
cond_no false x y t = refl

pub lying_in : {S : Type 0} (o : S) (k : ℕ) (s : Square S) (a b : ℤ) (u v : ℕ) → u < 2 ^ k → v < 2 ^ k → lying o k s a b (a +ℤ pos u) (b +ℤ pos v) ≡ state_at k s u v
lying_in o k s a b u v h g =
    cond_yes (within k a (a +ℤ pos u) && within k b (b +ℤ pos v)) _ o (and_in (within k a (a +ℤ pos u)) (within k b (b +ℤ pos v)) (within_in k a u h) (within_in k b v g)) ∙
    (λ i. state_at k s (size_of a u i) (size_of b v i))

pub lying_out : {S : Type 0} (o : S) (k : ℕ) (s : Square S) (a b x y : ℤ) → (T (within k a x) → T (within k b y) → ⊥) → lying o k s a b x y ≡ o
lying_out o k s a b x y n = cond_no (within k a x && within k b y) _ o (λ t. n (and_l (within k a x) (within k b y) t) (and_r (within k a x) (within k b y) t))

-- a plane that agrees with the square, and has the state o elsewhere, is the plane with the square
pub lying_same : {S : Type 0} (o : S) (k : ℕ) (s : Square S) (a b : ℤ) (q : Plane S) →
    ((u v : ℕ) → u < 2 ^ k → v < 2 ^ k → q (a +ℤ pos u) (b +ℤ pos v) ≡ state_at k s u v) →
    ((x y : ℤ) → (T (within k a x) → T (within k b y) → ⊥) → q x y ≡ o) → (x y : ℤ) → q x y ≡ lying o k s a b x y
lying_same o k s a b q f g x y =
    elim (decided (within k a x && within k b y)) [
      | inl t ↦
          let (u, h, e) = within_out k a x (and_l (within k a x) (within k b y) t) in
          let (v, i, d) = within_out k b y (and_r (within k a x) (within k b y) t) in
          (λ m. q (e m) (d m)) ∙ f u v h i ∙ sym (lying_in o k s a b u v h i) ∙ (λ m. lying o k s a b (sym e m) (sym d m))
      | inr t ↦
          let n = λ (h : T (within k a x)) (i : T (within k b y)). T_not (within k a x && within k b y) t (and_in (within k a x) (within k b y) h i) in
          g x y n ∙ sym (lying_out o k s a b x y n)
    ]
