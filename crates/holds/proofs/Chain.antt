-- What is held, over one call after another.
use mathlib.Core.Path.{◌≡◌, refl, sym, ap, subst, transport, ◌∙◌}
use mathlib.Core.Bool.{Bool}
use mathlib.Core.List.{List}
use Prim.Native.Nat.{ℕ, ◌+◌, ◌<◌, ◌≤◌}
use native.Mathlib.Omega.{arith}
use Rattle.model.specs.Squares.{Square}
use Rattle.nodes.specs.Nodes.{IsAt, Full}
use Rattle.nodes.specs.Memory.{view, held_in, KeepsAt}
use Rattle.nodes.proofs.Memory.{front_refl, front_less, front_trans}
use Rattle.slots.specs.declared.Store.{Store}
use Rattle.slots.specs.Stores.{mem, table, Is, Still, Grows}
use Rattle.holds.specs.Holding.{held, Pushed, Popped, Keeping}

-- a fact about a number, from one store to another that lies where it lay
is_at : (v w : Store) {d i : ℕ} {q : Square Bool} → w.at ≡ v.at → w.slots ≡ v.slots → IsAt v.slots (view v.at (mem w)) d i q → Is w d i q
is_at v w {d = d} {i = i} {q = q} a n h = transport (λ t. IsAt (sym n t) (view (sym a t) (mem w)) d i q) h

pub still_refl : (t : ℕ) (v : Store) → Still t v v
still_refl t v = record { at = refl; slots = refl; long = refl; keeps = record { front = front_refl (v.at + t) (mem v); still = λ k d q l h. h } }

pub still_less : {s t : ℕ} {v w : Store} → s ≤ t → Still t v w → Still s v w
still_less l p = record {
  at = p.at;
  slots = p.slots;
  long = p.long;
  keeps = record { front = front_less (omega arith) p.keeps.front; still = λ k d q b h. p.keeps.still k d q (omega arith) h };
}

pub held_still : {t : ℕ} {v w : Store} → Still t v w → (k : ℕ) → k < t → held w k ≡ held v k
held_still {w = w} p k l = ap (λ (a : ℕ). held_in a (mem w) k) p.at ∙ p.keeps.front.front _ (omega arith)

pub is_still : {t d k : ℕ} {v w : Store} {q : Square Bool} → Still t v w → k < t → Is v d (held v k) q → Is w d (held w k) q
is_still {d = d} {k = k} {v = v} {w = w} {q = q} p l h =
    subst (λ (i : ℕ). Is w d i q) (sym (held_still p k l)) (is_at v w p.at p.slots (p.keeps.still k d q l h))

both : (a n t : ℕ) (m w u : List ℕ) → KeepsAt a n t m w → KeepsAt a n t w u → KeepsAt a n t m u
both a n t m w u p q = record {
  front = front_trans p.front q.front;
  still = λ k d s b h.
      let e : held_in a w k ≡ held_in a m k = p.front.front (a + k) (omega arith) in
      subst (λ (i : ℕ). IsAt n (view a u) d i s) e (q.still k d s b (subst (λ (i : ℕ). IsAt n (view a w) d i s) (sym e) (p.still k d s b h)));
}

pub still_trans : {t : ℕ} {v w u : Store} → Still t v w → Still t w u → Still t v u
still_trans {t} {v} {w} {u} p q = record {
  at = q.at ∙ p.at;
  slots = q.slots ∙ p.slots;
  long = q.long ∙ p.long;
  keeps = both v.at v.slots t (mem v) (mem w) (mem u) p.keeps (transport (λ k. KeepsAt (p.at k) (p.slots k) t (mem w) (mem u)) q.keeps);
}

-- numbers that are not held mean the same where the store only grew
pub is_grows : (v w : Store) {d i : ℕ} {q : Square Bool} → w.at ≡ v.at → w.slots ≡ v.slots → Grows v w → Is v d i q → Is w d i q
is_grows v w {d = d} {i = i} {q = q} a n g h = is_at v w a n (g.all d i q h)

pub is_pushed : {d i j : ℕ} {v w : Store} {q : Square Bool} → Pushed v w j → Is v d i q → Is w d i q
is_pushed {v = v} {w = w} p h = is_grows v w p.still.at p.still.slots p.grows h

pub is_popped : {t d i : ℕ} {v w : Store} {q : Square Bool} → Popped t v w → Is v d i q → Is w d i q
is_popped {v = v} {w = w} p h = is_grows v w p.still.at p.still.slots p.grows h

-- a store that is full stays so where holds are let go
pub full_popped : {t : ℕ} {v w : Store} → Popped t v w → Full v.slots (table v) → Full w.slots (table w)
full_popped {v = v} {w = w} p h = transport (λ i. Full (sym p.still.slots i) (view (sym p.still.at i) (sym p.words i))) h

-- what was pushed is kept
pub keeping_new : {d i : ℕ} {v w : Store} {q : Square Bool} → Pushed v w i → Is v d i q → Keeping w v.top d q
keeping_new {d = d} {w = w} {q = q} p h = record { below = let e = p.top in omega arith; is = subst (λ (j : ℕ). Is w d j q) (sym p.last) (is_pushed p h) }

-- and stays so as long as its hold is below what changes
pub keeping_still : {t k d : ℕ} {v w : Store} {q : Square Bool} → Still t v w → k < t → t ≤ w.top → Keeping v k d q → Keeping w k d q
keeping_still p l m h = record { below = omega arith; is = is_still p l h.is }
