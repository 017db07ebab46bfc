use Rattle.std.proofs.Common.{arith}
use Rattle.answers.proofs.Writing.{wrote_part}
use Rattle.answers.proofs.text.Goals as goal

pub returns : goal.returns
returns c =
    wrote_part c.args.out.now c.copy_from_slice.new.self c.args.at _ c.args.bytes.now c.copy_from_slice.ensures.after (omega arith) c.requires
