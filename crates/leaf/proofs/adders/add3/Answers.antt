use Rattle.leaf.proofs.Adding.{three_added}
use Rattle.leaf.proofs.adders.add3.Goals as goal

pub returns : goal.returns
returns c = three_added c.args.a c.args.b c.args.c
