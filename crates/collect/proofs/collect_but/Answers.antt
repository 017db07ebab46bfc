use native.Mathlib.Omega.{arith}
use Rattle.model.specs.Quarters.{each_of}
use Rattle.std.specs.List.{All}
use mathlib.Core.Path.{sym, subst, transport, ◌∙◌}
use Prim.Native.Nat.{ℕ}
use Rattle.nodes.specs.Nodes.{IsAt}
use Rattle.nodes.specs.Memory.{view, Marked, KeepsAt}
use Rattle.slots.specs.Stores.{mem}
use Rattle.collect.specs.Collecting.{Means}
use Rattle.collect.proofs.Collecting.{is_marks, keeps_marks}
use Rattle.collect.proofs.collect_but.Goals as goal

pub returns-clause-still : goal.returns-clause-still
returns-clause-still c =
    let v = c.args.store.now in let w = c.mark_each.new.store in let u = c.forget.new.store in
    let e = c.mark_each.ensures in let f = e.fixed in let s = c.forget.ensures.still in
    record {
      at = s.at ∙ f.at;
      slots = s.slots ∙ f.slots;
      long = s.long ∙ f.long;
      keeps = keeps_marks v.at v.slots v.top (mem v) (mem w) (mem u) c.requires.good.laid.room e.marks (transport (λ k. KeepsAt (f.at k) (f.slots k) (f.top k) (mem w) (mem u)) s.keeps);
    }

pub returns-clause-kept : goal.returns-clause-kept
returns-clause-kept c =
    let v = c.args.store.now in let w = c.mark_each.new.store in let u = c.forget.new.store in let d = c.args.depth in let q = c.args.quarters in
    let a = v.at in let e = c.mark_each.ensures in let f = e.fixed in
    let done : All (Marked a (mem w)) (each_of q) = subst (All (Marked a (mem w))) c.each.ensures e.done in
    let means : (i : ℕ) → Marked a (mem w) i → Means v u d i = λ i b x h.
    c.forget.ensures.spared.spared d i x (transport (λ k. IsAt (sym f.slots k) (view (sym f.at k) (mem w)) d i x) (is_marks e.marks h)) (subst (λ (k : ℕ). Marked k (mem w) i) (sym f.at) b) in
    record { means_nw = means q.nw (done 0 0 (omega arith)); means_ne = means q.ne (done 1 0 (omega arith)); means_sw = means q.sw (done 2 0 (omega arith)); means_se = means q.se (done 3 0 (omega arith)) }
