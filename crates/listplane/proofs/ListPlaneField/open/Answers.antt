use Rattle.std.proofs.Common.{[]}
use Rattle.model.specs.Rules.{rule_of}
use Rattle.model.specs.World.{world_of}
use Rattle.lent.specs.Stretches.{tab}
use Rattle.listplane.proofs.Changes.{empty_staged}
use Rattle.listplane.proofs.ListPlaneField.open.Goals as goal

pub returns-clause-good : goal.returns-clause-good
returns-clause-good c = empty_staged c.args.mem.now c.requires

pub returns-clause-world : goal.returns-clause-world
unfolding tab
returns-clause-world c = let born = c.life.ensures.born in let stays = c.life.ensures.stays in λ i. world_of (rule_of (born i) (stays i)) []
