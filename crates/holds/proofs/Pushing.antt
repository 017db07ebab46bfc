-- Holds change nothing in the slots.
use mathlib.Core.Path.{◌≡◌, refl, sym, ap, subst, transport, ◌∙◌}
use mathlib.Core.List.{List}
use mathlib.Core.Logic.{◌≢◌}
use Prim.Native.Nat.{ℕ, suc, ◌+◌, ◌*◌, ◌%◌, ◌^◌, ◌<◌, ◌≤◌}
use native.Mathlib.Omega.{arith}
use native.Mathlib.Decide.{ℕ_discrete}
use lib.ListN.{length, set, length-set}
use lib.Seq.{get_or-set_same, get_or-set_other}
use Rattle.model.specs.Squares.{living}
use Rattle.nodes.specs.Nodes.{Valid, IsAt, Sound, square_of, used}
use Rattle.nodes.specs.Memory.{hold_room, base, word, view, held_in, NoteRight, GoodAt, FrontAt, KeepsAt, GrowsAt}

-- all words of slots are as they were
pub record SlotsSame (a : ℕ) (m w : List ℕ) : Type 0 where
  pub long : length w ≡ length m
  pub words : (i f : ℕ) → word a w i f ≡ word a m i f

pub same_view : {a : ℕ} {m w : List ℕ} → SlotsSame a m w → view a w ≡ view a m
unfolding view
same_view s = λ t i. record { state = s.words i 0 t % 128; upper = s.words i 1 t; lower = s.words i 2 t }

-- a store with other holds
pub good_slots : (a n t t' l : ℕ) (m w : List ℕ) → GoodAt a n t l m → SlotsSame a m w → t' ≤ hold_room →
    ((k : ℕ) → k < t' → (held_in a w k < n) × (2 ≤ (view a m (held_in a w k)).state)) → GoodAt a n t' l w
good_slots a n t t' l m w g s r h =
    let e = same_view s in
    record {
      laid = record { fits = subst (λ (k : ℕ). base a + 7 * n ≤ k) (sym s.long) g.laid.fits; some = g.laid.some; few = g.laid.few; room = r };
      sound = transport (λ i. Sound n (sym e i)) g.sound;
      clear = λ i b. let z = s.words i 0 in let y = g.clear i b in omega arith;
      counted = λ i d b. (λ k. s.words i 5 k + 2 ^ 64 * s.words i 6 k) ∙ g.counted i d (transport (λ k. Valid n (e k) d i) b) ∙ (λ k. living (square_of (sym e k) d i));
      notes = λ i p f b lo hi. transport (λ k. NoteRight n (sym e k) p i (sym (s.words i f) k)) (g.notes i p f (transport (λ k. Valid n (e k) (suc p) i) b) lo hi);
      held = λ k b. let z = h k b in (z.0, transport (λ j. 2 ≤ (sym e j (held_in a w k)).state) z.1);
      left = (λ k. used (e k) n + l) ∙ g.left;
    }

pub grows_slots : (a n : ℕ) (m w : List ℕ) → SlotsSame a m w → GrowsAt a n m w
grows_slots a n m w s = let e = same_view s in record { all = λ d i q h. transport (λ k. IsAt n (sym e k) d i q) h }

-- hold t is written
pub push_slots : (a t i : ℕ) (m : List ℕ) → t < hold_room → SlotsSame a m (set m (a + t) i)
push_slots a t i m h = record {
  long = simp length-set;
  words = λ j f. let o : (base a + 7 * j + f) ≢ (a + t) = λ e. omega arith in rw get_or-set_other refl;
}

pub push_front : (a t i : ℕ) (m : List ℕ) → FrontAt (a + t) m (set m (a + t) i)
push_front a t i m = record { long = simp length-set; front = λ k l. let o : k ≢ (a + t) = λ e. omega arith in rw get_or-set_other refl }

pub push_here : (a n t l i : ℕ) (m : List ℕ) → GoodAt a n t l m → t < hold_room → held_in a (set m (a + t) i) t ≡ i
push_here a n t l i m g r = let f = g.laid.fits in let o : a + t < length m = omega arith in rw get_or-set_same refl

pub push_held : (a n t l i : ℕ) (m : List ℕ) → GoodAt a n t l m → i < n → 2 ≤ (view a m i).state → t < hold_room →
    (k : ℕ) → k < t + 1 → (held_in a (set m (a + t) i) k < n) × (2 ≤ (view a m (held_in a (set m (a + t) i) k)).state)
push_held a n t l i m g b s r k h =
    elim (ℕ_discrete k t) [
      | yes e ↦
          let z : held_in a (set m (a + t) i) k ≡ i = ap (held_in a (set m (a + t) i)) e ∙ push_here a n t l i m g r in
          subst (λ (j : ℕ). (j < n) × (2 ≤ (view a m j).state)) (sym z) (b, s)
      | no e ↦
          let z : held_in a (set m (a + t) i) k ≡ held_in a m k = (push_front a t i m).front (a + k) (omega arith) in
          subst (λ (j : ℕ). (j < n) × (2 ≤ (view a m j).state)) (sym z) (g.held k (omega arith))
    ]

pub push_keeps : (a n t i : ℕ) (m : List ℕ) → t < hold_room → KeepsAt a n t m (set m (a + t) i)
push_keeps a n t i m r = record { front = push_front a t i m; still = λ k d q l h. (grows_slots a n m (set m (a + t) i) (push_slots a t i m r)).all d (held_in a m k) q h }
