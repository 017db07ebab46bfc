-- Lists that are others moved.
use Rattle.std.specs.Prelude.{ℕ, ◌+ℤ◌, neg_ℤ, Some, None, Option}
use Rattle.model.specs.declared.Cell.{Cell}
use Rattle.model.specs.declared.Period.{Period}
use Rattle.measure.specs.declared.Shift.{Shift}

-- how the second cell lies to the first
abbrev pub shift_of : Cell → Cell → Shift
shift_of a b = record { dx = b.x +ℤ neg_ℤ a.x; dy = b.y +ℤ neg_ℤ a.y }

-- the period that a shift after t generations is, or `go` where there is none
abbrev pub shift_period : ℕ → Option Shift → Option Period → Option Period
shift_period t None go = go
shift_period t (Some d) go = Some (record { t = t; dx = d.dx; dy = d.dy })
