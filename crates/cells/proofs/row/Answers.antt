use Rattle.std.proofs.Common.{arith}
use Rattle.lent.specs.Lists.{cells_of}
use Rattle.cells.proofs.RowBits.{bits_are}
use Rattle.cells.proofs.row.Goals as goal

pub returns : goal.returns
returns c =
    let l = c.loop-i.auto in let t = c.loop-i-test.false in
    bits_are c.args.from.x c.args.from.y (cells_of c.args.list) c.loop-i.out _ l.out (λ k h. c.loop-i.invariant k (omega arith))
