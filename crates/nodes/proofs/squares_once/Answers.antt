use Rattle.nodes.proofs.Tables.{squares_once_lem}
use Rattle.nodes.proofs.squares_once.Goals as goal

pub returns : goal.returns
returns c = squares_once_lem
