-- The middle word of four words.
use Rattle.std.proofs.Common.{◌≡◌, ℕ, zero, suc, ◌+◌, ◌^◌, ◌<◌, Bool, sym, ap, ◌∙◌, arith}
use Rattle.model.specs.Squares.{Leaf, Four, build, middle}
use Rattle.leaf.specs.Words.{cell_in}
use Rattle.leaf.specs.AsSquares.{word_square, four_words}

build_same : (k : ℕ) (f g : ℕ → ℕ → Bool) → ((x y : ℕ) → x < 2 ^ k → y < 2 ^ k → f x y ≡ g x y) → build k f ≡ build k g
unfolding build
build_same zero f g h = ap Leaf (h 0 0 (omega arith) (omega arith))
build_same (suc k) f g h =
    let a = build_same k f g (λ x y l m. h x y (omega arith) (omega arith)) in
    let b = build_same k (λ x y. f (2 ^ k + x) y) (λ x y. g (2 ^ k + x) y) (λ x y l m. h (2 ^ k + x) y (omega arith) (omega arith)) in
    let c = build_same k (λ x y. f x (2 ^ k + y)) (λ x y. g x (2 ^ k + y)) (λ x y l m. h x (2 ^ k + y) (omega arith) (omega arith)) in
    let d = build_same k (λ x y. f (2 ^ k + x) (2 ^ k + y)) (λ x y. g (2 ^ k + x) (2 ^ k + y)) (λ x y l m. h (2 ^ k + x) (2 ^ k + y) (omega arith) (omega arith)) in
    λ i. Four (a i) (b i) (c i) (d i)

-- the middle word of four is the middle of their square
pub middle_word : (a b c d r : ℕ) →
    ((x y : ℕ) → x < 4 → y < 4 → cell_in r x y ≡ cell_in a (x + 4) (y + 4)) → ((x y : ℕ) → x < 4 → y < 4 → cell_in r (x + 4) y ≡ cell_in b x (y + 4)) →
    ((x y : ℕ) → x < 4 → y < 4 → cell_in r x (y + 4) ≡ cell_in c (x + 4) y) → ((x y : ℕ) → x < 4 → y < 4 → cell_in r (x + 4) (y + 4) ≡ cell_in d x y) →
    word_square r ≡ middle (four_words a b c d)
unfolding build
middle_word a b c d r ha hb hc hd =
    let z : (x : ℕ) → x + 4 ≡ 4 + x = λ x. omega arith in
    let p = build_same 2 (cell_in r) (λ x y. cell_in a (4 + x) (4 + y)) (λ x y l m. ha x y l m ∙ (λ i. cell_in a (z x i) (z y i))) in
    let q = build_same 2 (λ x y. cell_in r (4 + x) y) (λ x y. cell_in b x (4 + y)) (λ x y l m. (λ i. cell_in r (sym (z x) i) y) ∙ hb x y l m ∙ (λ i. cell_in b x (z y i))) in
    let s = build_same 2 (λ x y. cell_in r x (4 + y)) (λ x y. cell_in c (4 + x) y) (λ x y l m. (λ i. cell_in r x (sym (z y) i)) ∙ hc x y l m ∙ (λ i. cell_in c (z x i) y)) in
    let t = build_same 2 (λ x y. cell_in r (4 + x) (4 + y)) (cell_in d) (λ x y l m. (λ i. cell_in r (sym (z x) i) (sym (z y) i)) ∙ hd x y l m) in
    λ i. Four (p i) (q i) (s i) (t i)
