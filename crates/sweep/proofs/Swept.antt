-- A store after both passes: it is good, and what was marked stands for what it stood for.
use mathlib.Core.Path.{◌≡◌, refl, sym, ap, subst, transport, ◌∙◌}
use mathlib.Core.Bool.{Bool, true, false, cond}
use mathlib.Core.List.{List}
use mathlib.Core.Logic.{inl, inr}
use Prim.Native.Nat.{ℕ, zero, suc, ◌+◌, ◌*◌, ◌^◌, ◌<◌, ◌≤◌}
use native.Mathlib.Omega.{arith}
use native.Mathlib.Decide.{dec_lt}
use lib.Dec.{leb}
use Rattle.nodes.specs.declared.Node.{Node}
use Rattle.nodes.specs.Nodes.{Table, square_of, Valid, Kids, IsAt, away, home_of, Sound, used, limit}
use Rattle.nodes.specs.Memory.{word, tag, view, Marked, held_in, target_of, NoteRight, GoodAt}
use Rattle.nodes.specs.Marking.{MarkedAt, StaysAt}
use Rattle.nodes.proofs.Tables.{square_frame}
use Rattle.nodes.proofs.Memory.{front_trans, view_same, view_state}
use Rattle.slots.specs.declared.Store.{Store}
use Rattle.slots.specs.Stores.{mem, Fixed, table}
use Rattle.sweep.specs.declared.Survey.{Survey}
use Rattle.sweep.specs.Sweeps.{naming, trimmed, homes, marks, Passed, Found, NewTag, TrimmedAt, RetaggedAt, SweptAt}
use Rattle.sweep.proofs.Trims.{naming_is, trimmed_view}

-- what was found out holds of the store after the first pass
pub found_after : {v w : Store} {k : ℕ} {x : Survey} → Fixed v w → TrimmedAt v.at v.slots k (mem v) (mem w) → Found v.slots v.slots (tag v.at (mem v)) (homes v.slots (table v)) x →
    Found w.slots w.slots (tag w.at (mem w)) (homes w.slots (table w)) x
found_after {v = v} {w = w} {x = x} e s f =
    let tags : (i : ℕ) → tag w.at (mem w) i ≡ tag v.at (mem v) i = λ i. (λ z. tag (e.at z) (mem w) i) ∙ s.nodes i 0 (omega arith) in
    let nodes : (i : ℕ) → table w i ≡ table v i = λ i. (λ z. view (e.at z) (mem w) i) ∙ trimmed_view s i in
    transport (λ z. Found (sym e.slots z) (sym e.slots z) (λ i. sym (tags i) z) (λ i. home_of (sym e.slots z) (sym (nodes i) z)) x) f

pub swept : (a n : ℕ) (m u w : List ℕ) → TrimmedAt a n n m u → RetaggedAt a n 0 u w → SweptAt a n m w
swept a n m u w p q =
    record {
      front = front_trans p.front q.front;
      tags = λ i l. transport (λ z. NewTag n (λ j. p.nodes j 0 (omega arith) z) (λ j. home_of n (trimmed_view p j z)) i (tag a w i)) (q.tags i (omega arith) l);
      nodes = λ i f l b c d. q.rest i f c (omega arith) ∙ p.nodes i f d;
      notes = λ i f l b c d. q.rest i f (omega arith) (omega arith) ∙ p.notes i f l b c d;
      counts = λ i f l b c d. q.rest i f (omega arith) d ∙ p.counts i f c d;
    }

-- as many slots hold squares as were marked
used_marks : (v : Table) (t : ℕ → ℕ) (k : ℕ) → ((i : ℕ) → i < k → leb 2 (v i).state ≡ leb 128 (t i)) → used v k ≡ marks t k
unfolding used marks
used_marks v t zero h = refl
used_marks v t (suc k) h = let p = used_marks v t k (λ i l. h i (omega arith)) in let q = h k (omega arith) in λ z. p z + cond (q z) 1 0

-- each marked slot holds a square
marks_used : (v : Table) (t : ℕ → ℕ) (k : ℕ) → ((i : ℕ) → i < k → 128 ≤ t i → 2 ≤ (v i).state) → marks t k ≤ used v k
unfolding used marks
marks_used v t zero h = omega arith
marks_used v t (suc k) h = one (t k) (v k).state (marks t k) (used v k) (h k (omega arith)) (marks_used v t k (λ i l. h i (omega arith)))
  where
    one : (x y m u : ℕ) → (128 ≤ x → 2 ≤ y) → m ≤ u → m + cond (leb 128 x) 1 0 ≤ u + cond (leb 2 y) 1 0
    one x y m u f l = grind arith

pub marks_limit : {a n t : ℕ} {m : List ℕ} → MarkedAt a n t m → marks (tag a m) n ≤ limit n
marks_limit {a = a} {n = n} {m = m} g = let p = marks_used (view a m) (tag a m) n g.closed.only in let q = g.few in omega arith

new_low : {n i x : ℕ} {t h : ℕ → ℕ} → NewTag n t h i x → t i < 128 → x ≤ 1
new_low e l = elim (e.others l) [ inl p ↦ let z = p.0 in omega arith | inr p ↦ let z = p.0 in omega arith ]

swept_marked : (a n : ℕ) (m w : List ℕ) → SweptAt a n m w → (i : ℕ) → i < n → 2 ≤ (view a w i).state → Marked a m i
swept_marked a n m w s i l h = elim (dec_lt (tag a m i) 128) [
  | yes p ↦ let z = new_low (s.tags i l) p in let y = view_state a w i in absurd (omega arith)
  | no p ↦ omega arith
]

swept_view : (a n : ℕ) (m w : List ℕ) → SweptAt a n m w → (i : ℕ) → i < n → Marked a m i → view a w i ≡ view a m i
swept_view a n m w s i l h =
    view_same a m w i (let e = (s.tags i l).kept h in omega arith) (s.nodes i 1 l h (omega arith) (omega arith)) (s.nodes i 2 l h (omega arith) (omega arith))

module _ (a n t : ℕ) (m w : List ℕ) (g : MarkedAt a n t m) (s : SweptAt a n m w) where
  marked_of : (i : ℕ) → i < n → 2 ≤ (view a w i).state → Marked a m i
  marked_of = swept_marked a n m w s

  node_of : (i : ℕ) → i < n → Marked a m i → view a w i ≡ view a m i
  node_of = swept_view a n m w s

  square_of_lem : (d i : ℕ) → Valid n (view a m) d i → Marked a m i → square_of (view a w) d i ≡ square_of (view a m) d i
  square_of_lem d i v b =
      square_frame n (view a m) (view a w) (λ j. (j < n) × Marked a m j) g.sound (λ j p. node_of j p.0 p.1)
      (λ j e u p. let k = g.sound.kids j e u in let q = g.closed.parts j e u p.1 in ((k.knw.here, q.mnw), (k.kne.here, q.mne), (k.ksw.here, q.msw), (k.kse.here, q.mse)))
      d i v (v.here, b)

  valid_new : (d i : ℕ) → Valid n (view a m) d i → Marked a m i → Valid n (view a w) d i
  valid_new d i v b = record { here = v.here; deep = ap (λ (x : Node). x.state) (node_of i v.here b) ∙ v.deep }

  valid_marked : (d i : ℕ) → Valid n (view a w) d i → Marked a m i
  valid_marked d i v = marked_of i v.here (let e = v.deep in omega arith)

  valid_old : (d i : ℕ) → Valid n (view a w) d i → Valid n (view a m) d i
  valid_old d i v = record { here = v.here; deep = ap (λ (x : Node). x.state) (sym (node_of i v.here (valid_marked d i v))) ∙ v.deep }

  passed_by : (i u : ℕ) → i < n → Marked a m i → away n (home_of n (view a w i)) u < away n (home_of n (view a w i)) i → Passed n n (tag a m) (homes n (view a m)) u
  passed_by i u l b h = record { by = i; within = l; marked = b; passes = subst (λ (x : Node). away n (home_of n x) u < away n (home_of n x) i) (node_of i l b) h }

  not_empty : (u : ℕ) → u < n → Passed n n (tag a m) (homes n (view a m)) u → 0 < (view a w u).state
  not_empty u l p = elim (dec_lt (tag a m u) 128) [
    | yes q ↦ elim ((s.tags u l).others q) [ inl r ↦ let e = r.0 in let f = view_state a w u in omega arith | inr r ↦ absurd (r.1 p) ]
    | no q ↦ let b : Marked a m u = omega arith in let e = ap (λ (x : Node). x.state) (node_of u l b) in let f = g.closed.only u l b in omega arith
  ]

  sound_swept : Sound n (view a w)
  sound_swept =
      record {
        kids = λ i d v. let o = valid_old (suc d) i v in let b = valid_marked (suc d) i v in let k = g.sound.kids i d o in let q = g.closed.parts i d o b in
            subst (Kids n (view a w) d) (sym (node_of i v.here b))
            (record { knw = valid_new d _ k.knw q.mnw; kne = valid_new d _ k.kne q.mne; ksw = valid_new d _ k.ksw q.msw; kse = valid_new d _ k.kse q.mse });
        leaves = λ i v. subst (λ (x : Node). (x.upper < 2 ^ 64) × (x.lower ≡ 0)) (sym (node_of i v.here (valid_marked 0 i v))) (g.sound.leaves i (valid_old 0 i v));
        packed = λ i u l b h p. not_empty u b (passed_by i u l (marked_of i l h) p);
        once = λ i j l b h e.
            let p = marked_of i l h in let q = marked_of j b (subst (λ (x : Node). 2 ≤ x.state) e h) in
            g.sound.once i j l b (g.closed.only i l p) (sym (node_of i l p) ∙ e ∙ node_of j b q);
      }

  is_new : (d i : ℕ) {q : _} → IsAt n (view a m) d i q → Marked a m i → IsAt n (view a w) d i q
  is_new d i v b = record { valid = valid_new d i v.valid b; same = square_of_lem d i v.valid b ∙ v.same }

  note_new : (p i x : ℕ) → Valid n (view a m) (suc p) i → Marked a m i → NoteRight n (view a m) p i x → NoteRight n (view a w) p i (trimmed a n m x)
  note_new p i x v b h = go (naming a n m x) refl
    where
      go : (c : Bool) → c ≡ naming a n m x → NoteRight n (view a w) p i (cond c x 0)
      go true e = record { right = λ d k l. rw (square_of_lem (suc p) i v b) (is_new p (target_of x) (h.right d k l) (naming_is a n m x e (λ z. omega arith)).1) }
      go false e = record { right = λ d k. absurd (omega arith) }

  state_swept : (i : ℕ) → i < n → leb 2 (view a w i).state ≡ leb 128 (tag a m i)
  state_swept i l = one (view a w i).state (tag a m i) (marked_of i l) (λ b. let e = ap (λ (x : Node). x.state) (node_of i l b) in let f = g.closed.only i l b in omega arith)
    where
      one : (x y : ℕ) → (2 ≤ x → 128 ≤ y) → (128 ≤ y → 2 ≤ x) → leb 2 x ≡ leb 128 y
      one x y p q = grind arith

  held_swept : (k : ℕ) → k < t → (held_in a w k < n) × (2 ≤ (view a w (held_in a w k)).state)
  held_swept k l =
      let h = g.held k l in let e : held_in a w k ≡ held_in a m k = s.front.front (a + k) (let r = g.laid.room in omega arith) in
      subst (λ (j : ℕ). (j < n) × (2 ≤ (view a w j).state)) (sym e)
      (h.0, subst (λ (x : Node). 2 ≤ x.state) (sym (node_of (held_in a m k) h.0 h.1)) (g.closed.only (held_in a m k) h.0 h.1))

  pub good_swept : (l : ℕ) → marks (tag a m) n + l ≡ limit n → GoodAt a n t l w
  good_swept l e =
      record {
        laid = record { fits = let f = g.laid.fits in let r = s.front.long in omega arith; some = g.laid.some; few = g.laid.few; room = g.laid.room };
        sound = sound_swept;
        clear = λ i b. elim (dec_lt (tag a m i) 128) [ yes p ↦ let z = new_low (s.tags i b) p in omega arith | no p ↦ let z = (s.tags i b).kept (omega arith) in omega arith ];
        counted = λ i d v. let b = valid_marked d i v in let o = valid_old d i v in
            rw (square_of_lem d i o b) ((λ z. s.counts i 5 v.here b (omega arith) (omega arith) z + 2 ^ 64 * s.counts i 6 v.here b (omega arith) (omega arith) z) ∙ g.counted i d o);
        notes = λ i p f v c d. let b = valid_marked (suc p) i v in let o = valid_old (suc p) i v in
            subst (NoteRight n (view a w) p i) (sym (s.notes i f v.here b c d)) (note_new p i (word a m i f) o b (g.notes i p f o c d));
        held = held_swept;
        left = ap (λ (u : ℕ). u + l) (used_marks (view a w) (tag a m) n state_swept) ∙ e;
      }

  pub stays_swept : StaysAt a n m w
  stays_swept = record { front = s.front; still = λ d i q v b. is_new d i v b }
