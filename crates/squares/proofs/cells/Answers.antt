use mathlib.Core.Path.{sym, ap, ◌∙◌}
use Rattle.leaf.specs.AsSquares.{word_square}
use Rattle.nodes.specs.Nodes.{square_of}
use Rattle.nodes.specs.Memory.{view}
use Rattle.squares.proofs.cells.Goals as goal

pub returns : goal.returns
unfolding square_of view
returns c = λ q h. sym h.same ∙ ap word_square (sym c.word.ensures)
