use Rattle.model.proofs.runs_stand.Goals as goal
use Rattle.model.proofs.Runs.{cells_right, padded_cells, run_right, run_padded}

pub returns : goal.returns
returns c = (cells_right, padded_cells, run_right, run_padded)
