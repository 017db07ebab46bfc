-- From a good store to marks, and from marks to a good store.
use mathlib.Core.Path.{◌≡◌, sym, subst, transport}
use mathlib.Core.Bool.{Bool}
use mathlib.Core.List.{List}
use Prim.Native.Nat.{ℕ, ◌+◌, ◌<◌, ◌≤◌}
use native.Mathlib.Omega.{arith}
use Rattle.model.specs.Squares.{Square}
use Rattle.nodes.specs.Nodes.{IsAt}
use Rattle.nodes.specs.Memory.{hold_room, view, Marked, held_in, KeepsAt}
use Rattle.nodes.specs.Marking.{MarksAt, StaysAt}
use Rattle.nodes.proofs.Memory.{front_trans, front_less}

pub is_marks : {a n d i : ℕ} {m w : List ℕ} {q : Square Bool} → MarksAt a m w → IsAt n (view a m) d i q → IsAt n (view a w) d i q
is_marks {n = n} {d = d} {i = i} {q = q} p h = transport (λ k. IsAt n (sym p.shown k) d i q) h

pub keeps_swept : (a n t : ℕ) (m w u : List ℕ) → t ≤ hold_room → MarksAt a m w → ((k : ℕ) → k < t → Marked a w (held_in a m k)) → StaysAt a n w u → KeepsAt a n t m u
keeps_swept a n t m w u r p h s = record {
  front = front_less (omega arith) (front_trans p.front s.front);
  still = λ k d q b i. s.still d (held_in a m k) q (is_marks p i) (h k b);
}

pub spared_swept : (a n : ℕ) (m w u : List ℕ) → MarksAt a m w → StaysAt a n w u → (d i : ℕ) (q : Square Bool) → IsAt n (view a m) d i q → Marked a m i → IsAt n (view a u) d i q
spared_swept a n m w u p s d i q h b = s.still d i q (is_marks p h) (p.more i b)

pub keeps_marks : (a n t : ℕ) (m w u : List ℕ) → t ≤ hold_room → MarksAt a m w → KeepsAt a n t w u → KeepsAt a n t m u
keeps_marks a n t m w u r p s = record {
  front = front_trans (front_less (omega arith) p.front) s.front;
  still = λ k d q b h.
      let e : held_in a w k ≡ held_in a m k = p.front.front (a + k) (omega arith) in
      subst (λ (i : ℕ). IsAt n (view a u) d i q) e (s.still k d q b (subst (λ (i : ℕ). IsAt n (view a w) d i q) (sym e) (is_marks p h)));
}
