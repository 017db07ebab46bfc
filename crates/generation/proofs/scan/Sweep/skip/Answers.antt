use Rattle.std.proofs.Common.{arith}
use Rattle.generation.proofs.Windows.{least_of, skip_none, skip_jump}
use Rattle.generation.proofs.scan.Sweep.skip.Goals as goal

pub returns-then-first : goal.returns-then-first
returns-then-first c m s h g =
    let l = least_of c.args.self.now c.min.result c.min-first.result c.min.ensures c.min-first.ensures in
    let l0 = l.above in let l1 = l.here in let l2 = l.below in
    skip_none m s c.args.self.now h g (omega arith) (omega arith) (omega arith) (omega arith) (omega arith)

pub returns : goal.returns
returns c m s h g =
    let l = least_of c.args.self.now c.min.result c.min-first.result c.min.ensures c.min-first.ensures in
    skip_jump m s c.args.self.now c.min-first.result c.saturating_sub-self.result h g (omega arith) (omega arith) l c.if-first.false c.saturating_sub-self.ensures
