use Rattle.std.proofs.Common.{◌≡◌, ℕ, get_or, subst, arith}
use Rattle.leaf.specs.Shown.{Later}
use Rattle.leaf.proofs.Showing.{later_none, later_next}
use Rattle.leaf.proofs.advance.Goals as goal

pub loop-init : goal.loop-init
loop-init g c r f i h = later_none r (get_or c.args.words i 0)

pub loop-preserved : goal.loop-preserved
loop-preserved g c r f i h = later_next r c.loop.counter _ _ _ (omega arith) (c.loop.invariant r f i h) (c.next_each-now.ensures r f i h)

pub returns : goal.returns
returns g c r f i h =
    let e : c.loop.counter ≡ c.args.n = omega arith in
    subst (λ (k : ℕ). Later r k (get_or c.args.words i 0) (get_or c.loop.now i 0)) e (c.loop.invariant r f i h)
