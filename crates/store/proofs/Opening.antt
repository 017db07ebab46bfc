-- A store without squares is good.
use Rattle.std.proofs.Common.{◌≡◌, ℕ, zero, suc, ◌+◌, ◌*◌, ◌%◌, ◌<◌, cond, leb, List, length, refl, ap, ◌∙◌, arith}
use native.Mathlib.Decide.{ℕ_discrete}
use Rattle.nodes.specs.Nodes.{Table, Valid, used, limit}
use Rattle.nodes.specs.Memory.{base, tag, view, LaidAt, GoodAt}
use Rattle.nodes.proofs.Memory.{put, put_here, put_slot, put_front, front_trans, view_state}
use Rattle.store.specs.Interning.{Cleared}

pub cleared_more : (a k : ℕ) (m w : List ℕ) → base a + 7 * k < length m → Cleared a k m w → Cleared a (k + 1) m (put a w k 0 0)
cleared_more a k m w h c = record {
  front = front_trans c.front (put_front a w k 0 0);
  empty = λ i l. elim (ℕ_discrete i k) [
    | yes e ↦ ap (tag a (put a w k 0 0)) e ∙ put_here a w k 0 0 (let z = c.front.long in omega arith)
    | no e ↦ put_slot a w k 0 0 i 0 (omega arith) (omega arith) e ∙ c.empty i (omega arith)
  ];
}

none_used : (v : Table) (k : ℕ) → ((i : ℕ) → i < k → (v i).state ≡ 0) → used v k ≡ 0
unfolding used
none_used v zero h = refl
none_used v (suc k) h =
    let p = none_used v k (λ i l. h i (omega arith)) in let q = h k (omega arith) in (λ t. p t + cond (leb 2 (q t)) 1 0)

pub good_cleared : (a n : ℕ) (m w : List ℕ) → LaidAt a n 0 w → Cleared a n m w → GoodAt a n 0 (limit n) w
good_cleared a n m w l c =
    let z : (i : ℕ) → i < n → (view a w i).state ≡ 0 = λ i h. view_state a w i ∙ ap (λ (t : ℕ). t % 128) (c.empty i h) in
    let no : (d i : ℕ) → Valid n (view a w) d i → ⊥ = λ d i h. let e = h.deep in let f = z i h.here in omega arith in
    record {
      laid = l;
      sound = record {
        kids = λ i d h. absurd (no (suc d) i h);
        leaves = λ i h. absurd (no 0 i h);
        packed = λ i u h k t b. absurd (let f = z i h in omega arith);
        once = λ i j h k t e. absurd (let f = z i h in omega arith);
      };
      clear = λ i h. let e = c.empty i h in omega arith;
      counted = λ i d h. absurd (no d i h);
      notes = λ i p f h lo hi. absurd (no (suc p) i h);
      held = λ k h. absurd (omega arith);
      left = let u = none_used (view a w) n z in omega arith;
    }
