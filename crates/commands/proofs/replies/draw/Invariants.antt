use Rattle.std.proofs.Common.{◌≡◌, ℕ, ◌+◌, ◌<◌, ◌≤◌, get_or}
use Rattle.commands.proofs.replies.draw.Given as goal

abbrev pub invariant-loop-cell : goal.invariant-loop-cell
invariant-loop-cell l =
    ((k : ℕ) → k < l.cell-index → get_or l.cells k 0 ≡ get_or l.initial.cells k 0 + 48)
    × ((k : ℕ) → l.cell-index ≤ k → get_or l.cells k 0 ≡ get_or l.initial.cells k 0)
