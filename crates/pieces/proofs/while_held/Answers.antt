use Rattle.std.proofs.Common.{ℕ, ap, subst, refl}
use Rattle.holds.specs.declared.Hold.{Hold}
use Rattle.holds.specs.Holding.{Popped}
use Rattle.pieces.proofs.Steady.{number_steady, number_gives}
use Rattle.pieces.proofs.while_held.Goals as goal

pub returns-clause-given : goal.returns-clause-given
returns-clause-given g c = λ e d f h.
    let v = c.args.store.now in let w = c.take-hold.new.store in let u = c.step-done.new.arg2 in let z = c.release.new.store in let i = c.args.number in
    let t = c.take-hold.ensures in let o = h _ _ _ c.step-done.ensures in let r = c.release.ensures in
    let popped = subst (λ (k : ℕ). Popped k u z) (ap (λ (x : Hold). x.from) t.is) r.popped in
    record { good = r.good; steady = number_steady v w u z i t.pushed o.steady popped; is = number_gives v w u z e d i v.top f c.step-done.result t.pushed refl o.is popped }
