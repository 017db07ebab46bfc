use Rattle.leaf.proofs.Adding.{chosen}
use Rattle.leaf.proofs.choose.Goals as goal

pub returns : goal.returns
returns c = chosen c.args.which c.args.yes c.args.no
