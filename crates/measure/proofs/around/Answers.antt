use Rattle.std.proofs.Common.{w64, rules}
use Rattle.model.specs.Cells.{box_of}
use mir.ValLaws.{to_z-of_z}
use Rattle.measure.proofs.around.Goals as goal

pub returns : goal.returns
unfolding box_of
returns c =
    let x = to_z-of_z w64 c.args.cell.x (search rules) in let y = to_z-of_z w64 c.args.cell.y (search rules) in
    λ i. record { left = x i; top = y i; right = x i; bottom = y i }
