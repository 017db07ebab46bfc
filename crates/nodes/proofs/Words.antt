-- Words as squares: different words are different squares, and a square's living cells are the word's.
use mathlib.Core.Path.{◌≡◌, sym, ap, ◌∙◌}
use mathlib.Core.Bool.{Bool}
use Prim.Native.Nat.{ℕ, zero, suc, ◌+◌, ◌*◌, ◌/◌, ◌%◌, ◌^◌, ◌<◌}
use native.Mathlib.Omega.{arith}
use lib.Dec.{eqb}
use Rattle.model.specs.Squares.{Square, living, build, state_at}
use Rattle.model.proofs.Shapes.{build_right}
use Rattle.leaf.specs.Words.{bit, cell_in, living_in, sum_below}
use Rattle.leaf.specs.AsSquares.{word_square}
use Rattle.leaf.proofs.BitLaws.{bit_shr}

digits_same : (m n : ℕ) → m < 2 → n < 2 → eqb m 1 ≡ eqb n 1 → m ≡ n
digits_same m n a b e = grind arith

lowest : (w u : ℕ) → bit w 0 ≡ bit u 0 → w % 2 ≡ u % 2
unfolding bit
lowest w u e =
    let p : w / 2 ^ 0 ≡ w = omega arith in let q : u / 2 ^ 0 ≡ u = omega arith in
    digits_same (w % 2) (u % 2) (omega arith) (omega arith) (ap (λ (z : ℕ). eqb (z % 2) 1) (sym p) ∙ e ∙ ap (λ (z : ℕ). eqb (z % 2) 1) q)

bits_same : (k w u : ℕ) → w < 2 ^ k → u < 2 ^ k → ((j : ℕ) → j < k → bit w j ≡ bit u j) → w ≡ u
bits_same zero w u a b h = omega arith
bits_same (suc k) w u a b h =
    let p = bits_same k (w / 2) (u / 2) (omega arith) (omega arith) (λ j l. bit_shr w 1 j ∙ h (1 + j) (omega arith) ∙ sym (bit_shr u 1 j)) in
    let q = lowest w u (h 0 (omega arith)) in
    omega arith

cell : (w x y : ℕ) → x < 8 → y < 8 → bit w (8 * y + x) ≡ state_at 3 (word_square w) x y
unfolding cell_in
cell w x y a b = sym ((build_right 3 (cell_in w)).1 x y a b)

pub word_inj : (w u : ℕ) → w < 2 ^ 64 → u < 2 ^ 64 → word_square w ≡ word_square u → w ≡ u
word_inj w u a b e = bits_same 64 w u a b (λ j l.
    let y = j / 8 in let x = j % 8 in let f : 8 * (j / 8) + j % 8 ≡ j = omega arith in
    ap (bit w) (sym f) ∙ cell w x y (omega arith) (omega arith) ∙ ap (λ (s : Square Bool). state_at 3 s x y) e ∙ sym (cell u x y (omega arith) (omega arith)) ∙ ap (bit u) f)

pub word_living : (w : ℕ) → living (word_square w) ≡ living_in w
unfolding living build sum_below
word_living w = omega arith
