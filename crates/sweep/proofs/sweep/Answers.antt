use mathlib.Core.Path.{sym, subst, subst₂, transport, ◌∙◌}
use Prim.Native.Nat.{ℕ, ◌-◌}
use native.Mathlib.Omega.{arith}
use Rattle.nodes.specs.Memory.{GoodAt}
use Rattle.nodes.specs.Nodes.{limit}
use Rattle.slots.specs.Stores.{mem}
use Rattle.sweep.specs.Sweeps.{RetaggedAt}
use Rattle.slots.proofs.Stores.{fixed_trans, laid_fixed}
use Rattle.sweep.proofs.Swept.{found_after, swept, good_swept, stays_swept, marks_limit}
use Rattle.sweep.proofs.sweep.Goals as goal

pub retag-requires : goal.retag-requires
retag-requires c = let e = c.trim-survey.ensures in record { laid = laid_fixed e.fixed c.requires.laid; found = found_after e.fixed e.trimmed e.found }

pub overflow_sub-store : goal.overflow_sub-store
overflow_sub-store c =
    let e = c.trim-survey.ensures in let n = e.found.count in let k = c.limit.ensures in let f = (fixed_trans e.fixed c.retag.ensures.fixed).slots in let q = marks_limit c.requires in
    omega arith

pub returns : goal.returns
returns c =
    let s = c.args.store.now in let u = c.trim-survey.new.store in let z = c.retag.new.store in let e = c.trim-survey.ensures in let d = c.retag.ensures in let f = fixed_trans e.fixed d.fixed in
    let r = subst₂ (λ (b l : ℕ). RetaggedAt b l 0 (mem u) (mem z)) e.fixed.at e.fixed.slots d.retagged in
    let w = swept s.at s.slots (mem s) (mem u) (mem z) e.trimmed r in
    let q = marks_limit c.requires in let n = e.found.count in
    record {
      same = d.same ∙ e.same;
      cut = record { at = f.at; slots = f.slots; top = f.top; long = f.long };
      swept = w;
      good = subst (λ (k : ℕ). GoodAt z.at z.slots z.top (k - c.trim-survey.result.count) (mem z)) (sym c.limit.ensures) (transport (λ i. GoodAt (sym f.at i) (sym f.slots i) (sym f.top i) (limit (sym f.slots i) - c.trim-survey.result.count) (mem z))
          (good_swept s.at s.slots s.top (mem s) (mem z) c.requires w (limit s.slots - c.trim-survey.result.count) (omega arith)));
      stays = stays_swept s.at s.slots s.top (mem s) (mem z) c.requires w;
    }
