use mathlib.Core.Path.{refl, sym, subst, ◌∙◌}
use native.Mathlib.Omega.{arith}
use Rattle.std.proofs.lemmas.List.{take_all}
use Rattle.std.specs.List.{All}
use Rattle.nodes.specs.Memory.{Marked}
use Rattle.slots.specs.declared.Store.{Store}
use Rattle.slots.specs.Stores.{mem, Same}
use Rattle.slots.proofs.Stores.{fixed_trans}
use Rattle.mark.proofs.Marks.{marks_trans, marks_at, kids_each, Ready, ready_leaf, ready_each, each_more, mark_last}
use Rattle.mark.proofs.+marking.Goals.{mark-then-depth-gt0, mark-else-depth-gt0}
use Rattle.mark.proofs.+marking.Goals as goal

pub mark-mark_each-requires : goal.mark-mark_each-requires
mark-mark_each-requires t c =
    let p = c.requires in (omega arith, (p.laid, (p.sound, kids_each c.each.ensures c.quarters-quarters.ensures c.node.ensures c.if-depth-gt0.true p.sound.0 p.has)))

pub mark-returns : goal.mark-returns
mark-returns t c =
    let v = c.args.store.now in let u = c.if-depth-gt0.store in let i = c.args.number in let set = c.set_marked.ensures in
    let before : Same v u × Ready v u i =
    elim c.if-depth-gt0.branch [
      | mark-then-depth-gt0 w ↦ (
          let e = w.mark_each.ensures in
          subst (λ (s : Store). Same v s × Ready v s i) (sym w.store-is) (e.same, ready_each w.each.ensures w.quarters-quarters.ensures w.node.ensures e.fixed e.closed e.marks e.done))
      | mark-else-depth-gt0 w ↦ subst (λ (s : Store). Same v s × Ready v s i) (sym w.store-is) (refl, ready_leaf w.if-depth-gt0.false c.requires.has c.requires.sound.1)
    ] in
    let d = mark_last v u c.set_marked.new.self c.args.depth i c.requires.laid c.requires.has before.1 set.after set.fixed in
    record { same = set.same ∙ before.0; fixed = d.fixed; closed = d.closed; marks = d.marks; done = d.done }

pub mark_each-loop-number-preserved : goal.mark_each-loop-number-preserved
mark_each-loop-number-preserved t c =
    let i = c.loop-number.invariant in let e = c.mark.ensures in
    (e.same ∙ i.0, fixed_trans i.1 e.fixed, e.closed, marks_trans i.3 (marks_at i.1 e.marks), each_more c.args.numbers.now i.1 e.marks c.loop-number-test.true i.4 e.done)

pub mark_each-returns-clause-done : goal.mark_each-returns-clause-done
mark_each-returns-clause-done t c =
    let i = c.loop-number.invariant in subst (All (Marked c.args.store.now.at (mem c.loop-number.store))) (take_all c.loop-number.number-index c.args.numbers.now (omega arith)) i.4
