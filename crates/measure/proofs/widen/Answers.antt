use Rattle.std.proofs.Common.{rules}
use Rattle.measure.proofs.Boxes.{low_side, high_side}
use Rattle.measure.proofs.widen.Goals as goal

pub returns : goal.returns
returns c =
    let b = c.args.bounds in let d = c.args.cell in
    let l = low_side c.min.result b.left d.x (search rules) (search rules) (search rules) c.min.ensures.value in
    let t = low_side c.min-2.result b.top d.y (search rules) (search rules) (search rules) c.min-2.ensures.value in
    let r = high_side c.max.result b.right d.x (search rules) (search rules) (search rules) c.max.ensures.value in
    let u = high_side c.max-2.result b.bottom d.y (search rules) (search rules) (search rules) c.max-2.ensures.value in
    λ i. record { left = l i; top = t i; right = r i; bottom = u i }
