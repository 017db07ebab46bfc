use Rattle.model.proofs.lists_stand.Goals as goal
use Rattle.model.proofs.Order.{lists_same}
use Rattle.model.proofs.Put.{lists_right}
use Rattle.model.proofs.Reach.{far_nexts}

pub returns : goal.returns
returns c = (lists_right, lists_same, far_nexts)
