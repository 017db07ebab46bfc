use Rattle.std.proofs.Common.{◌≤◌, sym, subst, ap, ◌∙◌}
use Rattle.model.specs.declared.Cell.{Cell}
use Rattle.model.specs.World.{size, edge}
use Rattle.lent.specs.Mem.{seen}
use Rattle.lent.specs.Entries.{cell_of}
use Rattle.lent.proofs.Listing.{listed_inside}
use Rattle.lent.proofs.list.CellList.cell.Goals as goal

pub returns-clause-near : goal.returns-clause-near
returns-clause-near c =
    subst (λ (d : Cell). (size d.x ≤ edge) × (size d.y ≤ edge)) (sym (c.to_cell.ensures ∙ ap cell_of c.at.ensures.value))
    (listed_inside (seen c.args.self.view) c.args.self.stretch c.args.self.listed c.args.i c.requires)
