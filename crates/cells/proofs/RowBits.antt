-- A row as bytes, place by place.
use Rattle.std.proofs.Common.{◌≡◌, ℕ, zero, suc, ◌^◌, ◌<◌, cond, T, List, length, get_or, ℤ, pos, negsuc, ◌+ℤ◌, FitsSigned, w64, sym, refl, ap, ◌∙◌, arith, ext_get_or}
use native.Mathlib.Decide.{dec_lt}
use borrow.Author.Differences.{ints}
use Rattle.model.specs.Planes.{ahead}
use Rattle.model.specs.declared.Cell.{Cell}
use Rattle.model.specs.Cells.{lives}
use Rattle.model.specs.World.{far, bits}

bits_length : (x y : ℤ) (n : ℕ) (cs : List Cell) → length (bits x y n cs) ≡ n
unfolding bits
bits_length x y zero cs = refl
bits_length x y (suc n) cs = ap suc (bits_length (ahead x) y n cs)

bits_at : (x y : ℤ) (n : ℕ) (cs : List Cell) (k : ℕ) → k < n → get_or (bits x y n cs) k 0 ≡ cond (lives (x +ℤ pos k) y cs) 1 0
unfolding bits
bits_at x y zero cs k h = absurd (omega arith)
bits_at x y (suc n) cs zero h = let e : x ≡ x +ℤ pos 0 = omega (arith, ints) in ap (λ (z : ℤ). cond (lives z y cs) 1 0) e
bits_at x y (suc n) cs (suc k) h = let e : ahead x +ℤ pos k ≡ x +ℤ pos (suc k) = omega (arith, ints) in bits_at (ahead x) y n cs k (omega arith) ∙ ap (λ (z : ℤ). cond (lives z y cs) 1 0) e

pub bits_are : (x y : ℤ) (cs : List Cell) (out : List ℕ) (n : ℕ) → length out ≡ n → ((k : ℕ) → k < n → get_or out k 0 ≡ cond (lives (x +ℤ pos k) y cs) 1 0) → out ≡ bits x y n cs
bits_are x y cs out n e h =
    ext_get_or 0 out (bits x y n cs) (e ∙ sym (bits_length x y n cs)) (λ k l. let b : k < n = omega arith in h k b ∙ sym (bits_at x y n cs k b))

-- what no word can hold is beyond the edge
pub far_unfit : (z y : ℤ) → (FitsSigned w64 z → ⊥) → T (far z y)
far_unfit (pos n) y h = go (dec_lt n (2 ^ 63))
  where
    go : Dec (n < 2 ^ 63) → T (far (pos n) y)
    go (yes l) = absurd (h (record { sfits = l }))
    go (no l) = grind arith
far_unfit (negsuc n) y h = go (dec_lt n (2 ^ 63))
  where
    go : Dec (n < 2 ^ 63) → T (far (negsuc n) y)
    go (yes l) = absurd (h (record { sfits = l }))
    go (no l) = grind arith
