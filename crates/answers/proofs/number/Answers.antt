use Rattle.std.proofs.Common.{arith}
use Rattle.answers.proofs.Writing.{decimal_short}
use Rattle.answers.proofs.number.Goals as goal

pub digits-requires : goal.digits-requires
digits-requires c = omega (arith, decimal_short c.args.n (omega arith))
