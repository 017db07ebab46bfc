use Rattle.std.proofs.Common.{rules}
use Rattle.trees.specs.Mixed.{mix}
use Rattle.trees.proofs.seeds.mix.Goals as goal

pub returns : goal.returns
unfolding mix
returns c = search rules
