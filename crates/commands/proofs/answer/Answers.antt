use Rattle.std.proofs.Common.{sym, arith}
use Rattle.lines.proofs.Lengths.{rows_short}
use Rattle.commands.proofs.answer.Goals as goal

pub row-requires-clause-room : goal.row-requires-clause-room
row-requires-clause-room g c =
    let asked = rw c.in-Ok-Row.field-0-is at c.in-Ok-Row.ensures in
    let short = rows_short c.args.line.now c.in-Ok-Row.from c.in-Ok-Row.n (sym asked) in
    omega arith
