use Rattle.std.proofs.Common.{T, ap, subst}
use Rattle.model.specs.declared.Cell.{Cell}
use Rattle.lent.specs.Lists.{words_of, stretch_of}
use Rattle.cells.proofs.Finds.{lives_far, place_lives}
use Rattle.cells.proofs.lives_near.Goals as goal

pub returns-then-is_far : goal.returns-then-is_far
returns-then-is_far c =
    lives_far (words_of c.args.list) (stretch_of c.args.list) c.args.cell.x c.args.cell.y c.args.list.listed (subst T c.if-is_far.ensures tt)

pub returns : goal.returns
returns c =
    let e = c.from_cell-entry.result in let is = c.from_cell-entry.ensures in
    place_lives (words_of c.args.list) (stretch_of c.args.list) e.row e.column c.find_near-place.result c.args.cell.x c.args.cell.y c.holds-lives.result c.args.list.listed
    c.find_near-place.ensures (ap (λ (d : Cell). d.x) is) (ap (λ (d : Cell). d.y) is) c.holds-lives.ensures
