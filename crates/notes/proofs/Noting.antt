-- A note changes no square, and what is noted is right.
use Rattle.std.proofs.Common.{◌≡◌, ℕ, suc, ◌+◌, ◌*◌, ◌%◌, ◌^◌, ◌<◌, ◌≤◌, T, ◌≢◌, List, Some, sym, ap, ◌∙◌, arith}
use mathlib.Core.Path.{transport}
use native.Mathlib.Decide.{ℕ_discrete}
use Rattle.model.specs.Rules.{good_rule}
use Rattle.model.specs.Squares.{living}
use Rattle.rules.specs.declared.Rule.{Rule}
use Rattle.rules.specs.Laws.{law}
use Rattle.nodes.specs.Nodes.{Table, Valid, IsAt, Sound, square_of, used}
use Rattle.nodes.specs.Memory.{word, view, stamped, leap_of, NoteRight, GoodAt, GrowsAt}
use Rattle.nodes.proofs.Memory.{put, put_long, put_here, put_field, put_slot, put_front, view_state}
use Rattle.notes.specs.Noting.{note_for, recalled}
use Rattle.notes.proofs.Packing.{packed_kind, packed_target, packed_stamp, stamp_law, recalled_serves}

-- a state fits in its part of the tag, so depths are small
pub depth_small : (a n : ℕ) (m : List ℕ) (d i : ℕ) → Valid n (view a m) d i → d < 126
depth_small a n m d i h = let e = view_state a m i in let f = h.deep in omega arith

-- what is recalled is the leap
pub recalled_right : (n : ℕ) (v : Table) (r : Rule) (e p i w l : ℕ) → T (good_rule (law r)) → e ≤ p + 2 → NoteRight n v p i w → recalled r e w ≡ Some l →
    IsAt n v p l (leap_of (law r) e p (square_of v (suc p) i))
recalled_right n v r e p i w l g b h f =
    let s = recalled_serves r e w l f in let k = ap stamped s.stamp ∙ stamp_law r g in
    transport (λ t. IsAt n v p (s.target t) (leap_of (k t) e p (square_of v (suc p) i))) (h.right e s.kind (omega arith))

-- the leap packed in a note is what the note says
pub packed_right : (n : ℕ) (v : Table) (r : Rule) (e p i l : ℕ) → T (good_rule (law r)) → e < 127 → l < 2 ^ 26 →
    IsAt n v p l (leap_of (law r) e p (square_of v (suc p) i)) → NoteRight n v p i (note_for r e l)
packed_right n v r e p i l g small few h = record {
  right = λ e' k b.
      let q : e ≡ e' = let z = packed_kind r e l small in omega arith in
      let s = ap stamped (packed_stamp r e l small few) ∙ stamp_law r g in let o = packed_target r e l small few in
      transport (λ t. IsAt n v p (sym o t) (leap_of (sym s t) (q t) p (square_of v (suc p) i))) h;
}

-- notes are no part of the nodes
pub note_view : (a : ℕ) (m : List ℕ) (i f x : ℕ) → 3 ≤ f → f ≤ 4 → view a (put a m i f x) ≡ view a m
unfolding view
note_view a m i f x lo hi =
    let w : (j g : ℕ) → g < 3 → word a (put a m i f x) j g ≡ word a m j g = λ j g l. put_field a m i f x j g (omega arith) (omega arith) (λ e. omega arith) in
    λ t j. record { state = w j 0 (omega arith) t % 128; upper = w j 1 (omega arith) t; lower = w j 2 (omega arith) t }

pub note_grows : (a n : ℕ) (m : List ℕ) (i f x : ℕ) → 3 ≤ f → f ≤ 4 → GrowsAt a n m (put a m i f x)
note_grows a n m i f x lo hi = let e = note_view a m i f x lo hi in record { all = λ d j q h. transport (λ t. IsAt n (sym e t) d j q) h }

pub good_note : (a n t l : ℕ) (m : List ℕ) (p i f x : ℕ) → 3 ≤ f → f ≤ 4 → GoodAt a n t l m → Valid n (view a m) (suc p) i → NoteRight n (view a m) p i x → GoodAt a n t l (put a m i f x)
good_note a n t l m p i f x lo hi g b r =
    let w = put a m i f x in let e = note_view a m i f x lo hi in let ft = put_front a m i f x in
    let other : (j h : ℕ) → h < 7 → h ≢ f → word a w j h ≡ word a m j h = λ j h c ne. put_field a m i f x j h (omega arith) c ne in
    let valid : (d j : ℕ) → Valid n (view a w) d j → Valid n (view a m) d j = λ d j z. transport (λ k. Valid n (e k) d j) z in
    let old : (j q h : ℕ) → Valid n (view a m) (suc q) j → 3 ≤ h → h ≤ 4 → word a w j h ≡ word a m j h → NoteRight n (view a w) q j (word a w j h) =
    λ j q h z lo' hi' s. transport (λ k. NoteRight n (sym e k) q j (sym s k)) (g.notes j q h z lo' hi') in
    record {
      laid = record { fits = let z = g.laid.fits in let y = put_long a m i f x in omega arith; some = g.laid.some; few = g.laid.few; room = g.laid.room };
      sound = transport (λ k. Sound n (sym e k)) g.sound;
      clear = λ j c. let z = other j 0 (omega arith) (λ s. omega arith) in let y = g.clear j c in omega arith;
      counted = λ j d c. (λ k. other j 5 (omega arith) (λ s. omega arith) k + 2 ^ 64 * other j 6 (omega arith) (λ s. omega arith) k) ∙ g.counted j d (valid d j c) ∙ (λ k. living (square_of (sym e k) d j));
      notes = λ j q h c lo' hi'. elim (ℕ_discrete h f) [
        | no ne ↦ old j q h (valid (suc q) j c) lo' hi' (other j h (omega arith) ne)
        | yes y ↦ elim (ℕ_discrete j i) [
          | no ne ↦ old j q h (valid (suc q) j c) lo' hi' (put_slot a m i f x j h (omega arith) (omega arith) ne)
          | yes z ↦
              let deep : p ≡ q = let s = (valid (suc q) j c).deep in let u = b.deep in let k = ap (λ (o : ℕ). (view a m o).state) z in omega arith in
              let here = (λ k. word a w (z k) (y k)) ∙ put_here a m i f x (let u = g.laid.fits in let o = b.here in omega arith) in
              transport (λ k. NoteRight n (sym e k) (deep k) (sym z k) (sym here k)) r
        ]
      ];
      held = λ k c. let z = ft.front (a + k) (let u = g.laid.room in omega arith) in transport (λ j. (sym z j < n) × (2 ≤ (sym e j (sym z j)).state)) (g.held k c);
      left = (λ k. used (e k) n + l) ∙ g.left;
    }
