use Rattle.std.proofs.Common.{◌≡◌, ℕ, ◌<◌, cond, get_or, pos, ◌+ℤ◌}
use Rattle.model.specs.Cells.{lives}
use Rattle.lent.specs.Lists.{cells_of}
use Rattle.cells.proofs.row.Given as goal

abbrev pub invariant-loop-i : goal.invariant-loop-i
invariant-loop-i l = (k : ℕ) → k < l.i → get_or l.out k 0 ≡ cond (lives (l.from.x +ℤ pos k) l.from.y (cells_of l.list)) 1 0
