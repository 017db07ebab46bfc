-- Cells, their order, and finite lists of living cells.
use Rattle.std.specs.Prelude.{Bool, true, false, cond, ◌&&◌, ◌||◌, List, [], ◌∷◌, ℤ, ◌+ℤ◌, Some, None, Option, int_le, int_lt}
use Rattle.model.specs.declared.Bounds.{Bounds}
pub use Rattle.model.specs.declared.Cell.{Cell}
use Rattle.model.specs.Planes.{Plane}

abbrev pub cell_at : ℤ → ℤ → Cell
cell_at x y = record { x = x; y = y }

abbrev pub same_z : ℤ → ℤ → Bool
same_z a b = int_le a b && int_le b a

abbrev pub same_cell : Cell → Cell → Bool
same_cell c d = same_z c.x d.x && same_z c.y d.y

-- the order: upper rows first, in a row from the left
abbrev pub before : Cell → Cell → Bool
before c d = int_lt c.y d.y || (same_z c.y d.y && int_lt c.x d.x)

unfoldable pub in_order : List Cell → Bool
in_order [] = true
in_order (c ∷ []) = true
in_order (c ∷ d ∷ cs) = before c d && in_order (d ∷ cs)

unfoldable pub lives : ℤ → ℤ → List Cell → Bool
lives x y [] = false
lives x y (c ∷ cs) = (same_z x c.x && same_z y c.y) || lives x y cs

abbrev pub plane_of : List Cell → Plane Bool
plane_of cs x y = lives x y cs

-- the list with the cell c living, or not
unfoldable pub put : Cell → Bool → List Cell → List Cell
put c true [] = c ∷ []
put c false [] = []
put c true (d ∷ cs) = cond (same_cell c d) (d ∷ cs) (cond (before c d) (c ∷ d ∷ cs) (d ∷ put c true cs))
put c false (d ∷ cs) = cond (same_cell c d) cs (d ∷ put c false cs)

unfoldable pub moved : ℤ → ℤ → List Cell → List Cell
moved dx dy [] = []
moved dx dy (c ∷ cs) = cell_at (c.x +ℤ dx) (c.y +ℤ dy) ∷ moved dx dy cs

unfoldable pub same_cells : List Cell → List Cell → Bool
same_cells [] [] = true
same_cells [] (d ∷ ds) = false
same_cells (c ∷ cs) [] = false
same_cells (c ∷ cs) (d ∷ ds) = same_cell c d && same_cells cs ds

abbrev pub lesser : ℤ → ℤ → ℤ
lesser a b = cond (int_le a b) a b

abbrev pub greater : ℤ → ℤ → ℤ
greater a b = cond (int_le a b) b a

unfoldable pub box_of : Cell → List Cell → Bounds
box_of c [] = record { left = c.x; top = c.y; right = c.x; bottom = c.y }
box_of c (d ∷ cs) =
    let k = box_of c cs in
    record { left = lesser d.x k.left; top = lesser d.y k.top; right = greater d.x k.right; bottom = greater d.y k.bottom }

-- the box around the living cells
abbrev pub bounds_of : List Cell → Option Bounds
bounds_of [] = None
bounds_of (c ∷ cs) = Some (box_of c cs)
