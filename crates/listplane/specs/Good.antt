-- The plane that a list of cells in lent memory stands for.
use Rattle.std.specs.Prelude.{ℕ, List}
use Rattle.model.specs.World.{World, world_of}
use Rattle.rules.specs.Laws.{law}
use Rattle.lent.specs.Stretches.{cells_in}
use Rattle.runs.specs.Stages.{Staged}
use Rattle.listplane.specs.declared.ListPlane.{ListPlane}

abbrev pub world_on : ListPlane → List ℕ → World
world_on f m = world_of (law f.rule) (cells_in m f.list)

-- the list is in the memory
abbrev pub Good : ListPlane → List ℕ → Type 0
Good f m = Staged m f.list
