use Rattle.model.proofs.periods_stand.Goals as goal
use Rattle.model.proofs.Periods.{period_right}

pub returns : goal.returns
returns c = period_right
