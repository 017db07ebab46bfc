use mathlib.Core.Path.{refl}
use Rattle.sweep.proofs.SecondPass.{retagging_kept, retagging_free}
use Rattle.sweep.proofs.retag.Goals as goal

pub loop-slot-preserved-then-is_marked : goal.loop-slot-preserved-then-is_marked
loop-slot-preserved-then-is_marked c =
    let a = c.set_state.ensures in
    retagging_kept c.requires.laid c.loop-slot-test.true c.loop-slot.auto.slot c.loop-slot.invariant c.if-is_marked.ensures c.node.ensures c.home.ensures.is c.min-least.ensures c.state.ensures.is a.same a.fixed a.after

pub loop-slot-preserved : goal.loop-slot-preserved
loop-slot-preserved c =
    let a = c.set_state-else-passes.ensures in
    retagging_free c.requires.laid c.requires.found c.loop-slot-test.true c.loop-slot.auto.slot c.loop-slot.invariant c.if-is_marked.ensures c.if-passes.ensures refl a.same a.fixed a.after
