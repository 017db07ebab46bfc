use Rattle.std.proofs.Common.{decimal, ap, arith}
use Rattle.answers.proofs.Writing.{wrote_both, wrote_as, decimal_short}
use Rattle.commands.proofs.Writing.{holds_wrote, wrote_numbers}
use Rattle.commands.proofs.replies.write_return.Goals as goal

pub write_both-requires : goal.write_both-requires
write_both-requires c = omega (arith, decimal_short c.from.result (omega arith))

pub returns : goal.returns
returns c =
    let p = c.args.p in
    let t = wrote_as (ap decimal c.from.ensures) c.number-shift.ensures in
    let shift = wrote_numbers p.dx p.dy (omega arith) (omega arith) c.write_both.ensures.wrote in
    holds_wrote (wrote_both c.text-t.ensures (wrote_both t shift)) (omega (arith, decimal_short c.from.result (omega arith)))
