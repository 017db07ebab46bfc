use Rattle.model.proofs.counts_stand.Goals as goal
use Rattle.model.proofs.Cellwise.{put_right}
use Rattle.model.proofs.Counts.{count_right}

pub returns : goal.returns
returns c = (count_right, put_right)
