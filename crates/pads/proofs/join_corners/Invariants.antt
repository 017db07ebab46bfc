use Rattle.std.proofs.Common.{suc}
use Rattle.slots.specs.Stores.{Same}
use Rattle.pieces.specs.Gathering.{Underway}
use Rattle.pads.specs.Padding.{corner_of}
use Rattle.pads.proofs.join_corners.Given as goal

abbrev pub invariant-loop-i : goal.invariant-loop-i
invariant-loop-i l =
    Same l.initial.store l.store ×
    Underway l.initial.store l.store l.initial.corners l.corners l.place (suc l.below) (suc l.below) l.i (corner_of l.below)
