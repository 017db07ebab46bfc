-- Rows of cells.
use Rattle.std.proofs.Common.{◌≡◌, ℕ, zero, suc, ◌≤◌, List, get_or, ℤ, arith}
use Rattle.model.specs.Planes.{ahead}
use Rattle.model.specs.declared.Cell.{Cell}
use Rattle.model.specs.World.{bits}

bits_small : (x y : ℤ) (n : ℕ) (cs : List Cell) (k : ℕ) → get_or (bits x y n cs) k 0 ≤ 1
unfolding bits
bits_small x y zero cs k = omega arith
bits_small x y (suc n) cs zero = grind arith
bits_small x y (suc n) cs (suc k) = bits_small (ahead x) y n cs k

pub row_small : (x y : ℤ) (n : ℕ) (cs : List Cell) (out : List ℕ) → out ≡ bits x y n cs → (k : ℕ) → get_or out k 0 ≤ 1
row_small x y n cs out e k = rw e (bits_small x y n cs k)
