-- How far out one cell lies.
use Rattle.std.specs.Prelude.{ℕ, max}
use Rattle.model.specs.declared.Cell.{Cell}
use Rattle.model.specs.World.{size}

-- the larger coordinate, without sign
abbrev pub outness : Cell → ℕ
outness c = max (size c.x) (size c.y)
