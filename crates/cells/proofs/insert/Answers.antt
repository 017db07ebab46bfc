use Rattle.lent.specs.Mem.{mem}
use Rattle.cells.proofs.Edits.{inserted}
use Rattle.cells.proofs.insert.Goals as goal

pub returns-clause-cells : goal.returns-clause-cells
returns-clause-cells c =
    inserted (mem c.args.words.now) (mem c.copy_cells.new.self) (mem c.write_cell.new.self) c.args.s c.args.entry.row c.args.entry.column c.args.i
    c.requires.listed c.requires.room c.requires.place c.requires.absent c.copy_cells.ensures.beside.long c.copy_cells.ensures.copied c.write_cell.ensures.after
