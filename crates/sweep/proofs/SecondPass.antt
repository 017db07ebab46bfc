-- The second pass over a store, slot by slot from the last.
use mathlib.Core.Path.{◌≡◌, refl, sym, ap, subst, ◌∙◌}
use mathlib.Core.Bool.{Bool, true, false, cond, ◌||◌}
use mathlib.Core.List.{List}
use mathlib.Core.Logic.{◌⊎◌, inl, inr, ◌≢◌}
use Prim.Native.Nat.{ℕ, ◌+◌, ◌-◌, ◌*◌, ◌%◌, ◌<◌, ◌≤◌, min}
use native.Mathlib.Omega.{arith}
use native.Mathlib.Decide.{dec_lt}
use borrow.Author.Tests.{true-leb, false-leb}
use lib.Dec.{T, leb, ltb}
use lib.ListN.{length, set}
use Rattle.nodes.specs.declared.Node.{Node}
use Rattle.nodes.specs.Nodes.{home_of}
use Rattle.nodes.specs.Memory.{base, tag, view}
use Rattle.nodes.proofs.Memory.{put, put_here, put_field, put_slot, put_front, front_refl, front_trans, view_same, view_state}
use Rattle.slots.specs.declared.Store.{Store}
use Rattle.slots.specs.Stores.{mem, Same, Fixed, Laid, table}
use Rattle.sweep.specs.declared.Survey.{Survey}
use Rattle.sweep.specs.Sweeps.{homes, Found, Passed, NewTag, RetaggedAt}
use Rattle.slots.proofs.Stores.{fixed_refl, fixed_trans}
use Rattle.sweep.proofs.Reach.{Least, least_none, least_skip, least_more, passing, not_passing}

retagged_none : (a n : ℕ) (m : List ℕ) → RetaggedAt a n n m m
retagged_none a n m = record { front = front_refl (base a) m; rest = λ i f p q. refl; before = λ i l. refl; tags = λ i l b. absurd (omega arith) }

retagged_more : (a n k : ℕ) (m w : List ℕ) (x : ℕ) → RetaggedAt a n k m w → 0 < k → base a + 7 * k ≤ length m → NewTag n (tag a m) (homes n (view a m)) (k - 1) x → RetaggedAt a n (k - 1) m (put a w (k - 1) 0 x)
retagged_more a n k m w x s p h new =
    record {
      front = front_trans s.front (put_front a w (k - 1) 0 x);
      rest = λ i f l b. put_field a w (k - 1) 0 x i f (omega arith) b (λ e. omega arith) ∙ s.rest i f l b;
      before = λ i l. other i (λ e. omega arith) ∙ s.before i (omega arith);
      tags = λ i l b. elim (dec_lt i k) [
        | yes q ↦ let z : k - 1 ≡ i = omega arith in subst (λ (j : ℕ). NewTag n (tag a m) (homes n (view a m)) j (tag a v j)) z (subst (NewTag n (tag a m) (homes n (view a m)) (k - 1)) (sym here) new)
        | no q ↦ subst (NewTag n (tag a m) (homes n (view a m)) i) (sym (other i (λ e. omega arith))) (s.tags i (omega arith) b)
      ];
    }
  where
    v : List ℕ
    v = put a w (k - 1) 0 x

    other : (i : ℕ) → i ≢ (k - 1) → tag a v i ≡ tag a w i
    other i ne = put_slot a w (k - 1) 0 x i 0 (omega arith) (omega arith) ne

    here : tag a v (k - 1) ≡ x
    here = put_here a w (k - 1) 0 x (let e = s.front.long in omega arith)

new_kept : (n : ℕ) (t h : ℕ → ℕ) (i x : ℕ) → 128 ≤ t i → x ≡ t i % 128 → NewTag n t h i x
new_kept n t h i x m e = record { kept = λ _. e; others = λ l. absurd (omega arith) }

new_free : (n k : ℕ) (t h : ℕ → ℕ) (s : Survey) (least x : ℕ) (b : Bool) → Found n n t h s → Least n k t h least → 0 < k → k ≤ n → t (k - 1) < 128 →
    b ≡ (leb least (k - 1) || (leb s.low (k - 1) || ltb (k - 1) s.high)) → x ≡ cond b 1 0 → NewTag n t h (k - 1) x
new_free n k t h s least x b f g p l m e d = record { kept = λ z. absurd (omega arith); others = λ _. go b e d }
  where
    go : (b : Bool) → b ≡ (leb least (k - 1) || (leb s.low (k - 1) || ltb (k - 1) s.high)) → x ≡ cond b 1 0 →
        ((x ≡ 1) × Passed n n t h (k - 1)) ⊎ ((x ≡ 0) × (Passed n n t h (k - 1) → ⊥))
    go true e d = inl (d, passing n k t h s least f g p l (subst T e tt))
    go false e d = inr (d, not_passing n k t h s least f g p (λ z. subst T (sym e) z))

-- the pass began with the store v and has come down to slot k with w
pub record Retagging (v w : Store) (k l : ℕ) : Type 0 where
  pub same : Same v w
  pub fixed : Fixed v w
  pub retagged : RetaggedAt v.at v.slots k (mem v) (mem w)
  pub least : Least v.slots k (tag v.at (mem v)) (homes v.slots (table v)) l

pub retagging_start : (v : Store) → Retagging v v v.slots v.slots
retagging_start v = record { same = refl; fixed = fixed_refl v; retagged = retagged_none v.at v.slots (mem v); least = least_none v.slots (tag v.at (mem v)) (homes v.slots (table v)) }

tag_was : {v w : Store} {k l : ℕ} → Retagging v w k l → (i : ℕ) → i < k → tag w.at (mem w) i ≡ tag v.at (mem v) i
tag_was {w = w} s i b = (λ t. tag (s.fixed.at t) (mem w) i) ∙ s.retagged.before i b

node_was : {v w : Store} {k l : ℕ} → Retagging v w k l → (i : ℕ) → i < k → table w i ≡ table v i
node_was {v = v} {w = w} s i b =
    (λ t. view (s.fixed.at t) (mem w) i) ∙
    view_same v.at (mem v) (mem w) i (ap (λ (z : ℕ). z % 128) (s.retagged.before i b)) (s.retagged.rest i 1 (omega arith) (omega arith)) (s.retagged.rest i 2 (omega arith) (omega arith))

pub retagging_kept : {v w u : Store} {k l h r x : ℕ} {n : Node} → Laid v → 0 < k → k ≤ v.slots → Retagging v w k l → true ≡ leb 128 (tag w.at (mem w) (k - 1)) →
    n ≡ table w (k - 1) → h ≡ home_of w.slots n → r ≡ min l h → x ≡ (table w (k - 1)).state →
    Same w u → Fixed w u → mem u ≡ set (mem w) (base w.at + 7 * (k - 1) + 0) x → Retagging v u (k - 1) r
retagging_kept {v = v} {w = w} {u = u} {k = k} {l = l} {r = r} laid p q s e i j g f a b c =
    let m = true-leb 128 (tag v.at (mem v) (k - 1)) (e ∙ ap (leb 128) (tag_was s (k - 1) (omega arith))) in
    let was = node_was s (k - 1) (omega arith) in let node = i ∙ was in
    let home = j ∙ (λ z. home_of (s.fixed.slots z) (node z)) in
    let fits = laid.fits in
    record {
      same = a ∙ s.same;
      fixed = fixed_trans s.fixed b;
      retagged = subst (RetaggedAt v.at v.slots (k - 1) (mem v)) (sym (c ∙ (λ z. put w.at (mem w) (k - 1) 0 (f z)) ∙ (λ z. put (s.fixed.at z) (mem w) (k - 1) 0 (was z).state)))
          (retagged_more v.at v.slots k (mem v) (mem w) (table v (k - 1)).state s.retagged p (omega arith)
          (new_kept v.slots (tag v.at (mem v)) (homes v.slots (table v)) (k - 1) _ m (view_state v.at (mem v) (k - 1))));
      least = subst (Least v.slots (k - 1) (tag v.at (mem v)) (homes v.slots (table v))) (sym (g ∙ ap (min l) home))
          (least_more v.slots k (tag v.at (mem v)) (homes v.slots (table v)) l s.least q p m);
    }

pub retagging_free : {v w u : Store} {k l x : ℕ} {y : Survey} {r : Bool} → Laid v → Found v.slots v.slots (tag v.at (mem v)) (homes v.slots (table v)) y → 0 < k → k ≤ v.slots → Retagging v w k l →
    false ≡ leb 128 (tag w.at (mem w) (k - 1)) → r ≡ (leb l (k - 1) || (leb y.low (k - 1) || ltb (k - 1) y.high)) → x ≡ cond r 1 0 →
    Same w u → Fixed w u → mem u ≡ set (mem w) (base w.at + 7 * (k - 1) + 0) x → Retagging v u (k - 1) l
retagging_free {v = v} {w = w} {u = u} {k = k} {l = l} {x = x} {y = y} {r = r} laid f p q s e i j a b c =
    let m = false-leb 128 (tag v.at (mem v) (k - 1)) (e ∙ ap (leb 128) (tag_was s (k - 1) (omega arith))) in
    let fits = laid.fits in
    record {
      same = a ∙ s.same;
      fixed = fixed_trans s.fixed b;
      retagged = subst (RetaggedAt v.at v.slots (k - 1) (mem v)) (sym (c ∙ (λ z. put (s.fixed.at z) (mem w) (k - 1) 0 x)))
          (retagged_more v.at v.slots k (mem v) (mem w) x s.retagged p (omega arith)
          (new_free v.slots k (tag v.at (mem v)) (homes v.slots (table v)) y l x r f s.least p q m i j));
      least = least_skip v.slots k (tag v.at (mem v)) (homes v.slots (table v)) l s.least m;
    }
