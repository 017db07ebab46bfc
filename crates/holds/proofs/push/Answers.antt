use mathlib.Core.Path.{refl, sym, subst, ◌∙◌}
use Prim.Native.Nat.{◌+◌}
use native.Mathlib.Omega.{arith}
use lib.ListN.{set}
use Rattle.nodes.specs.Memory.{held_in, KeepsAt, GrowsAt}
use Rattle.nodes.proofs.Memory.{good_eq}
use Rattle.slots.specs.Stores.{mem}
use Rattle.holds.proofs.Pushing.{good_slots, grows_slots, push_slots, push_held, push_here, push_keeps}
use Rattle.holds.proofs.push.Goals as goal

pub returns : goal.returns
returns c =
    let v = c.args.store.now in let a = v.at in let n = v.slots in let t = v.top in let m = mem v in let i = c.args.number in
    let e = c.set_held.ensures in let u = e.fixed in let r = c.requires.room in
    let g = good_slots a n t (t + 1) v.left m (set m (a + t) i) c.requires.good (push_slots a t i m r) (omega arith) (push_held a n t v.left i m c.requires.good c.requires.square.0 c.requires.square.1 r) in
    record {
      same = e.same;
      good = good_eq u.at u.slots refl u.left e.after g;
      pushed = record {
        still = record { at = u.at; slots = u.slots; long = u.long; keeps = subst (KeepsAt a n t m) (sym e.after) (push_keeps a n t i m r) };
        grows = subst (GrowsAt a n m) (sym e.after) (grows_slots a n m (set m (a + t) i) (push_slots a t i m r));
        top = refl;
        last = (λ k. held_in (u.at k) (e.after k) t) ∙ push_here a n t v.left i m c.requires.good r;
      };
    }
