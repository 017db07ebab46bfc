-- What a list of cells in lent memory is made of.
use Rattle.std.specs.Prelude.{List, ℕ}
use Rattle.model.specs.declared.Cell.{Cell}
use Rattle.lent.specs.Mem.{seen}
use Rattle.lent.specs.Stretches.{cells_in}
use Rattle.lent.specs.declared.Stretch.{Stretch}
use Rattle.lent.specs.declared.list.CellList.{CellList}

-- the memory that it is read from
abbrev pub words_of : CellList → List ℕ
words_of l = seen l.view

-- the stretch in which it lies
abbrev pub stretch_of : CellList → Stretch
stretch_of l = l.stretch

abbrev pub cells_of : CellList → List Cell
cells_of l = cells_in (words_of l) (stretch_of l)
