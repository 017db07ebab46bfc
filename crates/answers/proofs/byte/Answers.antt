use Rattle.answers.proofs.Writing.{wrote_byte}
use Rattle.answers.proofs.byte.Goals as goal

pub returns : goal.returns
returns c = wrote_byte c.args.out.now c.args.at c.args.value c.requires
