-- Boxes around cells.
use Rattle.model.specs.declared.Cell.{Cell}
use Rattle.model.specs.declared.Bounds.{Bounds}
use Rattle.model.specs.Cells.{lesser, greater}

-- around one cell more
abbrev pub widened : Bounds → Cell → Bounds
widened k d = record { left = lesser d.x k.left; top = lesser d.y k.top; right = greater d.x k.right; bottom = greater d.y k.bottom }
