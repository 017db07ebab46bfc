use Rattle.leaf.proofs.Adding.{two_added}
use Rattle.leaf.proofs.adders.add2.Goals as goal

pub returns : goal.returns
returns c = two_added c.args.a c.args.b
