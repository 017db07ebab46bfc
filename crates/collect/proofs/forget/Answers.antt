use mathlib.Core.Path.{sym, transport, ◌∙◌}
use Rattle.nodes.specs.Nodes.{IsAt}
use Rattle.nodes.specs.Memory.{view}
use Rattle.nodes.specs.Marking.{StaysAt}
use Rattle.slots.specs.Stores.{mem}
use Rattle.collect.proofs.Collecting.{keeps_swept, spared_swept}
use Rattle.collect.proofs.forget.Goals as goal

pub returns-clause-still : goal.returns-clause-still
returns-clause-still c =
    let v = c.args.store.now in let w = c.mark_held.new.store in let u = c.sweep.new.store in
    let e = c.mark_held.ensures in let f = c.sweep.ensures in let x = e.fixed in let y = f.cut in
    let s : StaysAt v.at v.slots (mem w) (mem u) = transport (λ k. StaysAt (x.at k) (x.slots k) (mem w) (mem u)) f.stays in
    record {
      at = y.at ∙ x.at;
      slots = y.slots ∙ x.slots;
      long = y.long ∙ x.long;
      keeps = keeps_swept v.at v.slots v.top (mem v) (mem w) (mem u) c.requires.marking.laid.room e.marks e.done s;
    }

pub returns-clause-spared : goal.returns-clause-spared
returns-clause-spared c =
    let v = c.args.store.now in let w = c.mark_held.new.store in let u = c.sweep.new.store in
    let e = c.mark_held.ensures in let f = c.sweep.ensures in let x = e.fixed in let y = f.cut in
    let s : StaysAt v.at v.slots (mem w) (mem u) = transport (λ k. StaysAt (x.at k) (x.slots k) (mem w) (mem u)) f.stays in
    record {
      spared = λ d i q h b. transport (λ k. IsAt (sym (y.slots ∙ x.slots) k) (view (sym (y.at ∙ x.at) k) (mem u)) d i q) (spared_swept v.at v.slots (mem v) (mem w) (mem u) e.marks s d i q h b);
    }
