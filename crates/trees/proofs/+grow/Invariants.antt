use Rattle.std.proofs.Common.{◌+◌, ◌-◌, ◌%◌}
use Rattle.trees.specs.Growing.{grown, quarter_at}
use Rattle.trees.proofs.Rows.{Row}
use Rattle.trees.proofs.+grow.Given as goal

abbrev pub decreases-grow : goal.decreases-grow
decreases-grow l = l.depth

abbrev pub invariant-loop-k : goal.invariant-loop-k
invariant-loop-k l =
    Row l.initial.store l.store l.initial.hold.from l.hold (l.depth - 1) l.k (λ j. grown l.leaves (l.depth - 1) (quarter_at l.place ((l.first + j) % 4)))
