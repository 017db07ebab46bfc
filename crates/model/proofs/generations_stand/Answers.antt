use Rattle.model.proofs.generations_stand.Goals as goal
use Rattle.model.proofs.Time.{adds, steps_add}

pub returns : goal.returns
returns g c = (adds, steps_add)
