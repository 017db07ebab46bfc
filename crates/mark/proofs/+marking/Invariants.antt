use Prim.Native.Nat.{◌+◌, ◌*◌}
use lib.ListN.{take}
use Rattle.std.specs.List.{All}
use Rattle.nodes.specs.Memory.{Marked}
use Rattle.nodes.specs.Marking.{MarksAt}
use Rattle.slots.specs.Stores.{mem, Same, Fixed, Closed}
use Rattle.mark.proofs.+marking.Given as goal

-- the two call each other: a square's quarters are one less deep than it, and squares of one depth as deep as that
abbrev pub decreases-mark : goal.decreases-mark
decreases-mark l = 2 * l.depth

abbrev pub decreases-mark_each : goal.decreases-mark_each
decreases-mark_each l = 2 * l.depth + 1

abbrev pub invariant-mark_each-loop-number : goal.invariant-mark_each-loop-number
invariant-mark_each-loop-number l =
    Same l.initial.store l.store × Fixed l.initial.store l.store × Closed l.store × MarksAt l.initial.store.at (mem l.initial.store) (mem l.store) ×
    All (Marked l.initial.store.at (mem l.store)) (take l.number-index l.numbers)
