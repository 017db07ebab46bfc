use Rattle.std.proofs.Common.{◌+◌, ◌*◌, ◌<◌, arith}
use Rattle.model.specs.Rules.{becomes}
use Rattle.leaf.specs.Words.{bit, cell_in, neighbours_in, next_in}
use Rattle.leaf.proofs.Adding.{inside, in_steps, neighbours_most}
use Rattle.leaf.proofs.next_by_fates.Goals as goal

pub returns : goal.returns
unfolding cell_in
returns c r f x y hx hy =
    inside c.choose-3.result x y (next_in r c.args.w) hx hy
    (λ lx gx ly gy.
    let k = 8 * y + x in let l : k < 64 = omega arith in
    in_steps (becomes r (bit c.args.w k)) (neighbours_in c.args.w x y) _ _ _ _ _ _ _ _ _ _ _ _ _ _ _ _ _ _ _ _ _
    (neighbours_most c.args.w x y) (c.neighbour_sums-sums.ensures x y lx gx ly gy)
    (c.of-8.ensures r f k l) (c.of-7.ensures r f k l) (c.of-6.ensures r f k l) (c.of-5.ensures r f k l) (c.of-4.ensures r f k l)
    (c.of-3.ensures r f k l) (c.of-2.ensures r f k l) (c.of.ensures r f k l) (c.of-9.ensures r f k l)
    (c.choose-zero.ensures k) (c.choose-two.ensures k) (c.choose-four.ensures k) (c.choose-six.ensures k)
    (c.choose-2.ensures k) (c.choose.ensures k) (c.choose-below_eight.ensures k) (c.choose-3.ensures k))
