use mathlib.Core.Path.{refl}
use Rattle.nodes.specs.Nodes.{home_of}
use Rattle.nodes.proofs.Tables.{home_within}
use Rattle.slots.proofs.Store.home.Goals as goal

pub returns : goal.returns
unfolding home_of
returns c = record { is = refl; within = home_within c.args.self.now.slots c.args.node c.requires.laid.some }
