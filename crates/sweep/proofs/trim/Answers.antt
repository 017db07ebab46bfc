use mathlib.Core.Path.{sym, subst₂}
use Prim.Native.Nat.{◌+◌}
use native.Mathlib.Omega.{arith}
use Rattle.nodes.specs.Memory.{tag}
use Rattle.slots.specs.declared.Store.{Store}
use Rattle.slots.specs.Stores.{mem}
use Rattle.sweep.specs.declared.Survey.{Survey}
use Rattle.sweep.proofs.Reach.{marks_few}
use Rattle.sweep.proofs.FirstPass.{Trimming, trimming_start, trimming_skip, trimming_more}
use Rattle.sweep.proofs.trim.Goals as goal
use Rattle.sweep.proofs.trim.Goals.{then-is_marked, else-is_marked}

pub loop-slot-init : goal.loop-slot-init
loop-slot-init c = trimming_start c.args.store.now

pub with_slot-survey-requires : goal.with_slot-survey-requires
with_slot-survey-requires c =
    let e = c.loop-slot.invariant.found.count in let f = marks_few (tag c.args.store.now.at (mem c.args.store.now)) c.loop-slot.slot in let t = c.loop-slot-test.true in let g = c.requires.few in
    (omega arith, omega arith)

pub loop-slot-preserved : goal.loop-slot-preserved
loop-slot-preserved c = elim c.if-is_marked.branch [
  | then-is_marked w ↦ let a = w.trim_note.ensures in let b = w.trim_note-then-is_marked.ensures in
      subst₂ (λ (s : Store) (x : Survey). Trimming c.args.store.now s (c.loop-slot.slot + 1) x) (sym w.store-is) (sym w.survey-is)
      (trimming_more c.requires c.loop-slot-test.true c.loop-slot.invariant w.if-is_marked.ensures a.same a.fixed a.after b.same b.fixed b.after w.node.ensures w.home.ensures.is w.with_slot-survey.ensures)
  | else-is_marked w ↦
      subst₂ (λ (s : Store) (x : Survey). Trimming c.args.store.now s (c.loop-slot.slot + 1) x) (sym w.store-is) (sym w.survey-is) (trimming_skip c.loop-slot.invariant w.if-is_marked.ensures)
]
