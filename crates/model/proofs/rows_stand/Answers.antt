use Rattle.std.proofs.Common.{List, pos, refl, ap}
use Rattle.model.specs.Rules.{nth, flags}
use Rattle.model.specs.Cells.{Cell, in_order, lives, moved, same_cells, box_of}
use Rattle.model.specs.Lists.{row_of, rows_of, nexts}
use Rattle.model.specs.World.{world_of, farthest, reach, period_from}
use Rattle.model.specs.Squares.{state_at, leap}
use Rattle.model.specs.Promise.{many}
use Rattle.model.specs.Rows.{b3s23, glider, RowB}
use Rattle.model.proofs.ForEver.{for_ever}
use Rattle.model.proofs.rows_stand.Goals as goal

-- the 4,000 generations by the period, a thousand times
row_b : RowB
unfolding nth flags in_order lives moved same_cells box_of row_of rows_of nexts period_from many
row_b = (refl, let k = ((for_ever 4 (world_of b3s23 glider) tt tt).0 4 (pos 1) (pos 1) refl).2 1000 in ap (λ (cs : List Cell). lives (pos 1001) (pos 1000) cs) k)

pub returns : goal.returns
unfolding nth flags in_order lives moved same_cells box_of row_of rows_of nexts farthest reach period_from state_at leap
returns c =
    ((refl, refl, refl), (row_b, ((refl, refl, refl), ((refl, refl), ((refl, refl), ((refl, refl, refl, refl, refl), (refl, refl, refl)))))))
