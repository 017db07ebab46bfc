use Rattle.std.proofs.Common.{◌+◌, ◌*◌}
use Rattle.seek.proofs.+putting.Given as goal

abbrev pub decreases-put_cell : goal.decreases-put_cell
decreases-put_cell l = 4 * l.depth

abbrev pub decreases-put_in_quarter : goal.decreases-put_in_quarter
decreases-put_in_quarter l = 4 * l.below + 3

abbrev pub decreases-put_number : goal.decreases-put_number
decreases-put_number l = 4 * l.depth + 2

abbrev pub decreases-put_number-while_held : goal.decreases-put_number-while_held
decreases-put_number-while_held l = 4 * l.depth + 1
