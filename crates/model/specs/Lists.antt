-- The next generation of an ordered list of living cells: of all cells of the box that is one larger on each side, those that the rule lets live.
use Rattle.std.specs.Prelude.{ℕ, zero, suc, ◌+◌, ◌-◌, Bool, cond, List, [], ◌∷◌, ◌++◌, ℤ, pos, negsuc}
use Rattle.model.specs.Planes.{Plane, back, ahead, step}
use Rattle.model.specs.Rules.{Rule, life}
use Rattle.model.specs.Cells.{Cell, cell_at, plane_of, box_of}

-- how many numbers there are from a to b
abbrev pub span : ℤ → ℤ → ℕ
span (pos a) (pos b) = suc b - a
span (pos a) (negsuc b) = 0
span (negsuc a) (pos b) = suc (suc (a + b))
span (negsuc a) (negsuc b) = suc a - b

-- of n cells of a row from x, y to the right, those that live in p
unfoldable pub row_of : Plane Bool → ℤ → ℤ → ℕ → List Cell
row_of p x y zero = []
row_of p x y (suc n) = cond (p x y) (cell_at x y ∷ row_of p (ahead x) y n) (row_of p (ahead x) y n)

-- the same of n rows from y down
unfoldable pub rows_of : Plane Bool → ℤ → ℕ → ℤ → ℕ → List Cell
rows_of p x w y zero = []
rows_of p x w y (suc n) = row_of p x y w ++ rows_of p x w (ahead y) n

abbrev pub next_of : Rule → List Cell → List Cell
next_of r [] = []
next_of r (c ∷ cs) =
    let k = box_of c cs in
    rows_of (step (life r) (plane_of (c ∷ cs))) (back k.left) (span k.left k.right + 2) (back k.top) (span k.top k.bottom + 2)

unfoldable pub nexts : Rule → ℕ → List Cell → List Cell
nexts r zero cs = cs
nexts r (suc n) cs = nexts r n (next_of r cs)
