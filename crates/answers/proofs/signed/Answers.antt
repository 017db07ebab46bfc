use Rattle.std.proofs.Common.{arith}
use Rattle.answers.proofs.Writing.{wrote_as, wrote_both, below_long, minus_text, plain_text}
use Rattle.answers.proofs.signed.Goals as goal

pub digits-requires : goal.digits-requires
digits-requires c = omega (arith, below_long c.unsigned_abs.result (omega arith))

pub digits-requires-else-z-lt0 : goal.digits-requires-else-z-lt0
digits-requires-else-z-lt0 c = omega (arith, below_long c.unsigned_abs-else-z-lt0.result (omega arith))

pub returns-then-z-lt0 : goal.returns-then-z-lt0
returns-then-z-lt0 c =
    wrote_as
    (minus_text c.args.z c.unsigned_abs.result c.ranges.z c.if-z-lt0.true c.unsigned_abs.ensures.value)
    (wrote_both c.byte-first.ensures c.digits.ensures)

pub returns-else-z-lt0 : goal.returns-else-z-lt0
returns-else-z-lt0 c =
    wrote_as
    (plain_text c.args.z c.unsigned_abs-else-z-lt0.result c.ranges.z c.if-z-lt0.false c.unsigned_abs-else-z-lt0.ensures.value)
    c.digits-else-z-lt0.ensures
