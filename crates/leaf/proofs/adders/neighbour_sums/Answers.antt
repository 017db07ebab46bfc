use Rattle.std.proofs.Common.{◌+◌, ◌*◌, arith}
use Rattle.leaf.proofs.Adding.{around}
use Rattle.leaf.proofs.adders.neighbour_sums.Goals as goal

pub returns : goal.returns
returns c x y hx kx hy ky =
    let k = 8 * y + x in
    let sum = around c.args.w _ _ x y hx kx hy ky c.add3-row.ensures in
    let beside = c.add2-beside.ensures k in let ones = c.add3-ones.ensures k in let carries = c.add3-carries.ensures k in
    let twos = c.add2-twos.ensures k in let fours = c.add2-fours.ensures k in
    omega arith
