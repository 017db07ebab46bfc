use Rattle.std.proofs.Common.{◌+◌, ◌*◌}
use Rattle.slots.specs.Stores.{Same}
use Rattle.advance.proofs.Parts.{Loop}
use Rattle.advance.proofs.+leaping.Given as goal

abbrev pub decreases-Larger::gather : goal.decreases-Larger::gather
decreases-Larger::gather l = 10 * l.self.below + 11

abbrev pub decreases-Larger::join : goal.decreases-Larger::join
decreases-Larger::join l = 10 * l.self.below + 12

abbrev pub decreases-Larger::ninth : goal.decreases-Larger::ninth
decreases-Larger::ninth l = 10 * l.self.below + 10

abbrev pub decreases-Larger::quarter : goal.decreases-Larger::quarter
decreases-Larger::quarter l = 10 * l.self.below + 10

abbrev pub decreases-Larger::work_out : goal.decreases-Larger::work_out
decreases-Larger::work_out l = 10 * l.self.below + 13

abbrev pub decreases-advance : goal.decreases-advance
decreases-advance l = 10 * l.depth + 7

abbrev pub decreases-advance_number : goal.decreases-advance_number
decreases-advance_number l = 10 * l.depth + 9

abbrev pub decreases-advance_number-while_held : goal.decreases-advance_number-while_held
decreases-advance_number-while_held l = 10 * l.depth + 8

abbrev pub decreases-work_out : goal.decreases-work_out
decreases-work_out l = 10 * l.depth + 6

abbrev pub invariant-Larger::gather-loop-i : goal.invariant-Larger::gather-loop-i
invariant-Larger::gather-loop-i l = Same l.initial.store l.store × Loop l.initial.store l.store l.initial.parts l.parts l.self l.i

abbrev pub invariant-Larger::gather-loop-i-2 : goal.invariant-Larger::gather-loop-i-2
invariant-Larger::gather-loop-i-2 l = Same l.fn.store l.store × Loop l.fn.store l.store l.fn.parts l.parts l.self (9 + l.i)
