use Rattle.std.proofs.Common.{◌+◌, ◌*◌, arith}
use Rattle.leaf.specs.Words.{cell_in, neighbours_in, next_in}
use Rattle.leaf.specs.Fates.{life_law}
use Rattle.leaf.proofs.Adding.{inside, life_bits, neighbours_most}
use Rattle.leaf.proofs.next_of_life.Goals as goal

pub returns : goal.returns
unfolding cell_in
returns c x y hx hy =
    inside _ x y (next_in life_law c.args.w) hx hy
    (λ lx gx ly gy.
    life_bits _ _ _ c.args.w (neighbours_in c.args.w x y) (8 * y + x) _ (omega arith) (omega arith) (neighbours_most c.args.w x y)
    (c.neighbour_sums-sums.ensures x y lx gx ly gy))
