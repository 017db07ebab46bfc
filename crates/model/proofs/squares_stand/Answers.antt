use Rattle.model.proofs.squares_stand.Goals as goal
use Rattle.model.proofs.Shapes.{squares_same, build_right}
use Rattle.model.proofs.Padded.{padded_right}

pub returns : goal.returns
returns g c = (squares_same, build_right, padded_right)
