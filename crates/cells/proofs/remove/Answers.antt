use Rattle.lent.specs.Mem.{mem}
use Rattle.cells.proofs.Edits.{removed}
use Rattle.cells.proofs.remove.Goals as goal

pub returns-clause-cells : goal.returns-clause-cells
returns-clause-cells c =
    removed (mem c.args.words.now) (mem c.copy_cells.new.self) c.args.s c.args.i c.requires.listed c.requires.within c.copy_cells.ensures.copied
