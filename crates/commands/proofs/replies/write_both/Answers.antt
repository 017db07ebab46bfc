use Rattle.std.proofs.Common.{arith}
use Rattle.answers.proofs.Writing.{wrote_both, signed_short}
use Rattle.commands.proofs.Writing.{wrote_number}
use Rattle.commands.proofs.replies.write_both.Goals as goal

pub byte-second-requires : goal.byte-second-requires
byte-second-requires c =
    let f = c.ranges.x.sfits in let x = wrote_number c.args.x f (wrote_both c.byte-first.ensures c.signed-space.ensures) in
    omega (arith, x.long, signed_short c.args.x f)

pub signed-requires : goal.signed-requires
signed-requires c =
    let f = c.ranges.x.sfits in let x = wrote_number c.args.x f (wrote_both c.byte-first.ensures c.signed-space.ensures) in
    omega (arith, x.long, signed_short c.args.x f)

pub returns : goal.returns
returns c =
    let f = c.ranges.x.sfits in let g = c.ranges.y.sfits in
    let x = wrote_number c.args.x f (wrote_both c.byte-first.ensures c.signed-space.ensures) in
    let y = wrote_number c.args.y g (wrote_both c.byte-second.ensures c.signed.ensures) in
    record { wrote = wrote_both x y; short = omega (arith, x.long, y.long, signed_short c.args.x f, signed_short c.args.y g) }
