-- Squares in a table: what changes of the table leave as it was, and that each square stands once.
use mathlib.Core.Path.{◌≡◌, refl, sym, ap, ◌∙◌}
use mathlib.Core.Bool.{Bool, true, false, cond}
use Prim.Native.Nat.{ℕ, zero, suc, ◌+◌, ◌*◌, ◌/◌, ◌^◌, ◌<◌, ◌≤◌}
use native.Mathlib.Nat.{mul-lt-mul_of_pos_right}
use native.Mathlib.Omega.{arith}
use lib.Dec.{leb}
use Rattle.model.specs.Rules.{as_one}
use Rattle.model.specs.Squares.{Square, Four, living, build}
use Rattle.leaf.specs.AsSquares.{word_square}
use Rattle.nodes.specs.declared.Node.{Node}
use Rattle.nodes.specs.Nodes.{Table, first, second, square_of, Valid, home_of, Sound, SquaresOnce, used}
use Rattle.nodes.proofs.Words.{word_inj}

four_nw : {a b c d a' b' c' d' : Square Bool} → Four a b c d ≡ Four a' b' c' d' → a ≡ a'
four_nw e = cc

four_ne : {a b c d a' b' c' d' : Square Bool} → Four a b c d ≡ Four a' b' c' d' → b ≡ b'
four_ne e = cc

four_sw : {a b c d a' b' c' d' : Square Bool} → Four a b c d ≡ Four a' b' c' d' → c ≡ c'
four_sw e = cc

four_se : {a b c d a' b' c' d' : Square Bool} → Four a b c d ≡ Four a' b' c' d' → d ≡ d'
four_se e = cc

halves : (w u : ℕ) → first w ≡ first u → second w ≡ second u → w ≡ u
halves w u e f = omega arith

node_same : (x y : Node) → x.state ≡ y.state → x.upper ≡ y.upper → x.lower ≡ y.lower → x ≡ y
node_same x y e f g = λ i. record { state = e i; upper = f i; lower = g i }

canonical : (n : ℕ) (v : Table) → Sound n v → (d i j : ℕ) → Valid n v d i → Valid n v d j → square_of v d i ≡ square_of v d j → i ≡ j
unfolding square_of
canonical n v s zero i j a b e =
    let p = s.leaves i a in let q = s.leaves j b in
    let f : (v i).state ≡ (v j).state = a.deep ∙ sym b.deep in
    s.once i j a.here b.here (let z = a.deep in omega arith)
    (node_same (v i) (v j) f (word_inj (v i).upper (v j).upper p.0 q.0 e) (p.1 ∙ sym q.1))
canonical n v s (suc d) i j a b e =
    let p = s.kids i d a in let q = s.kids j d b in
    let f : (v i).state ≡ (v j).state = a.deep ∙ sym b.deep in
    s.once i j a.here b.here (let z = a.deep in omega arith)
    (node_same (v i) (v j) f
    (halves (v i).upper (v j).upper (canonical n v s d _ _ p.knw q.knw (four_nw e)) (canonical n v s d _ _ p.kne q.kne (four_ne e)))
    (halves (v i).lower (v j).lower (canonical n v s d _ _ p.ksw q.ksw (four_sw e)) (canonical n v s d _ _ p.kse q.kse (four_se e))))

pub squares_once_lem : SquaresOnce
squares_once_lem n v s d i j q a b = canonical n v s d i j a.valid b.valid (a.same ∙ sym b.same)

-- Two tables agree on numbers of which, with each, the quarters are among them: they stand for the same squares.
pub square_frame : (n : ℕ) (v w : Table) (P : ℕ → Type 0) → Sound n v →
    ((i : ℕ) → P i → w i ≡ v i) →
    ((i d : ℕ) → Valid n v (suc d) i → P i → P (first (v i).upper) × P (second (v i).upper) × P (first (v i).lower) × P (second (v i).lower)) →
    (d i : ℕ) → Valid n v d i → P i → square_of w d i ≡ square_of v d i
unfolding square_of
square_frame n v w P s h c zero i a p = ap (λ (x : Node). word_square x.upper) (h i p)
square_frame n v w P s h c (suc d) i a p =
    let k = s.kids i d a in let q = c i d a p in let e = h i p in
    let go : (j : ℕ) → Valid n v d j → P j → square_of w d j ≡ square_of v d j = λ j. square_frame n v w P s h c d j in
    (λ t. Four (square_of w d (first (e t).upper)) (square_of w d (second (e t).upper)) (square_of w d (first (e t).lower)) (square_of w d (second (e t).lower))) ∙
    (λ t. Four (go _ k.knw q.0 t) (go _ k.kne q.1 t) (go _ k.ksw q.2 t) (go _ k.kse q.3 t))

-- the slots below k hold as many squares in two tables, if each holds one in both or in neither
pub used_same : (v w : Table) (k : ℕ) → ((i : ℕ) → i < k → leb 2 (w i).state ≡ leb 2 (v i).state) → used w k ≡ used v k
unfolding used
used_same v w zero h = refl
used_same v w (suc k) h = let p = used_same v w k (λ i l. h i (omega arith)) in let q = h k (omega arith) in λ t. p t + cond (q t) 1 0

pub used_few : (v : Table) (k : ℕ) → used v k ≤ k
unfolding used
used_few v zero = omega arith
used_few v (suc k) = let p = used_few v k in one (leb 2 (v k).state) (used v k) k p
  where
    one : (b : Bool) (m k : ℕ) → m ≤ k → m + cond b 1 0 ≤ suc k
    one true m k h = omega arith
    one false m k h = omega arith

-- a home is one of the slots
scaled : (k n : ℕ) → k < 2 ^ 32 → 0 < n → k * n / 2 ^ 32 < n
scaled k n h p = let q : k * n < 2 ^ 32 * n = mul-lt-mul_of_pos_right h p in omega arith

pub home_within : (n : ℕ) (x : Node) → 0 < n → home_of n x < n
unfolding home_of
home_within n x p = scaled _ n (omega arith) p

-- a square of depth d has at most 64 times 4^d living cells
word_most : (w : ℕ) → living (word_square w) ≤ 64
unfolding living build
word_most w = omega (arith, one_most)
  where
    one_most : (b : Bool) → as_one b ≤ 1
    one_most true = omega arith
    one_most false = omega arith

pub living_most : (v : Table) (d i : ℕ) → living (square_of v d i) ≤ 64 * 4 ^ d
unfolding square_of living
living_most v zero i = word_most (v i).upper
living_most v (suc d) i =
    let a = living_most v d (first (v i).upper) in let b = living_most v d (second (v i).upper) in
    let c = living_most v d (first (v i).lower) in let e = living_most v d (second (v i).lower) in
    omega arith
