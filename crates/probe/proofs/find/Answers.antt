use Rattle.std.proofs.Common.{ℕ, ◌++◌, [], ◌∷◌, length, sym, ◌∙◌, subst, arith}
use Rattle.slots.specs.Stores.{table}
use Rattle.probe.specs.Places.{Fit, Found}
use Rattle.probe.proofs.Probing.{turn, ended, Passed, node_same, node_other, passed_square, passed_free, fit_empty, fit_end, used_end}
use Rattle.probe.proofs.find.Goals as goal

pub state-requires-clause-within : goal.state-requires-clause-within
state-requires-clause-within c =
    let n = c.args.store.now.slots in let x = c.args.node in
    let t = turn n x c.loop-slot.yielded _ _ c.requires.laid.some c.loop-slot.yielded_by c.in-Some.is c.next.ensures.steps (cc, cc, cc, cc) in
    t.0

pub returns-in-Empty : goal.returns-in-Empty
unfolding Found
returns-in-Empty c =
    let n = c.args.store.now.slots in let v = table c.args.store.now in let x = c.args.node in
    let t = turn n x c.loop-slot.yielded _ _ c.requires.laid.some c.loop-slot.yielded_by c.in-Some.is c.next.ensures.steps (cc, cc, cc, cc) in
    subst (λ (i : ℕ). Fit n v x i) (sym c.unwrap_or.ensures)
    (fit_empty n v x (length c.loop-slot.yielded) c.in-Some.slot c.loop-slot.spot c.requires.sound.0 c.requires.laid.some c.requires.sound.1 t c.loop-slot.invariant (sym c.in-Empty.ensures.is))

pub loop-slot-preserved-in-Free : goal.loop-slot-preserved-in-Free
loop-slot-preserved-in-Free c =
    let n = c.args.store.now.slots in let v = table c.args.store.now in let x = c.args.node in let ys = c.loop-slot.yielded in let i = c.in-Some.slot in
    let t = turn n x c.loop-slot.yielded _ _ c.requires.laid.some c.loop-slot.yielded_by c.in-Some.is c.next.ensures.steps (cc, cc, cc, cc) in
    subst (Passed n v x (length (ys ++ i ∷ []))) (sym c.or-spot.ensures)
    (passed_free n v x ys i c.loop-slot.spot c.requires.laid.some c.requires.sound.1 t c.loop-slot.invariant (sym c.in-Free.ensures.is))

pub node-other-requires-clause-within : goal.node-other-requires-clause-within
node-other-requires-clause-within c =
    let n = c.args.store.now.slots in let x = c.args.node in
    let t = turn n x c.loop-slot.yielded _ _ c.requires.laid.some c.loop-slot.yielded_by c.in-Some.is c.next.ensures.steps (cc, cc, cc, cc) in
    t.0

pub returns-then-eq : goal.returns-then-eq
unfolding Found
returns-then-eq c =
    let n = c.args.store.now.slots in let x = c.args.node in
    let t = turn n x c.loop-slot.yielded _ _ c.requires.laid.some c.loop-slot.yielded_by c.in-Some.is c.next.ensures.steps (cc, cc, cc, cc) in
    (t.0, sym c.node-other.ensures ∙ node_same c.node-other.result x c.if-eq.ensures)

pub loop-slot-preserved : goal.loop-slot-preserved
loop-slot-preserved c =
    let n = c.args.store.now.slots in let v = table c.args.store.now in let x = c.args.node in let ys = c.loop-slot.yielded in let i = c.in-Some.slot in
    let t = turn n x c.loop-slot.yielded _ _ c.requires.laid.some c.loop-slot.yielded_by c.in-Some.is c.next.ensures.steps (cc, cc, cc, cc) in
    passed_square n v x ys i c.loop-slot.spot c.requires.laid.some t c.loop-slot.invariant
    (let d = c.in-Square.ensures.is in omega arith) (λ z. node_other c.node-other.result x c.if-eq.ensures (c.node-other.ensures ∙ z))

pub returns-in-Some-spot : goal.returns-in-Some-spot
unfolding Found
returns-in-Some-spot c =
    let n = c.args.store.now.slots in let v = table c.args.store.now in let x = c.args.node in
    let e = ended n x c.loop-slot.yielded _ _ c.requires.laid.some c.loop-slot.yielded_by c.in-None.is c.next.ensures.steps (cc, cc, cc, cc) in
    fit_end n v x c.in-Some-spot.slot c.requires.laid.some
    (subst (Passed n v x n) c.in-Some-spot.is (subst (λ (k : ℕ). Passed n v x k c.loop-slot.spot) e c.loop-slot.invariant))

pub returns-in-None-spot : goal.returns-in-None-spot
unfolding Found
returns-in-None-spot c =
    let n = c.args.store.now.slots in let v = table c.args.store.now in let x = c.args.node in
    let e = ended n x c.loop-slot.yielded _ _ c.requires.laid.some c.loop-slot.yielded_by c.in-None.is c.next.ensures.steps (cc, cc, cc, cc) in
    used_end n v x c.requires.laid.some
    (subst (Passed n v x n) c.in-None-spot.is (subst (λ (k : ℕ). Passed n v x k c.loop-slot.spot) e c.loop-slot.invariant))
