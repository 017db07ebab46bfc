-- Marks that are set one after another, and the facts that stay.
use mathlib.Core.Path.{◌≡◌, refl, sym, ap, subst, transport, ◌∙◌}
use mathlib.Core.List.{List}
use mathlib.Core.Logic.{◌≢◌}
use Prim.Native.Nat.{ℕ, suc, ◌+◌, ◌-◌, ◌*◌, ◌%◌, ◌<◌, ◌≤◌}
use native.Mathlib.Omega.{arith}
use native.Mathlib.Decide.{ℕ_discrete}
use lib.ListN.{length, take, get_or}
use Rattle.nodes.specs.declared.Node.{Node}
use Rattle.std.specs.List.{All}
use Rattle.std.proofs.lemmas.List.Elements.{All-more}
use Rattle.model.specs.Quarters.{each_of}
use Rattle.model.proofs.Four.{all_each}
use Rattle.model.specs.declared.quarters.Quarters.{Quarters}
use Rattle.nodes.specs.Nodes.{Table, Valid, Sound, quarters_of}
use Rattle.nodes.specs.Memory.{base, word, tag, view, Marked, held_in}
use Rattle.nodes.specs.Marking.{KidsMarked, ClosedAt, MarksAt}
use Rattle.nodes.proofs.Memory.{put, put_here, put_field, put_slot, put_front, front_refl, front_trans, view_same, view_state}
use Rattle.slots.specs.declared.Store.{Store}
use Rattle.slots.proofs.Stores.{fixed_refl, fixed_trans}
use Rattle.slots.specs.Stores.{mem, Fixed, Laid, table, Closed, Has}

pub marks_refl : (a : ℕ) (m : List ℕ) → MarksAt a m m
marks_refl a m = record { front = front_refl (base a) m; shown = refl; rest = λ i f p q. refl; more = λ i h. h }

pub marks_trans : {a : ℕ} {m w u : List ℕ} → MarksAt a m w → MarksAt a w u → MarksAt a m u
marks_trans p q =
    record {
      front = front_trans p.front q.front;
      shown = q.shown ∙ p.shown;
      rest = λ i f b l. q.rest i f b l ∙ p.rest i f b l;
      more = λ i h. q.more i (p.more i h);
    }

kids_more : {a : ℕ} {m w : List ℕ} {x : Node} → MarksAt a m w → KidsMarked a m x → KidsMarked a w x
kids_more p k = record { mnw = p.more _ k.mnw; mne = p.more _ k.mne; msw = p.more _ k.msw; mse = p.more _ k.mse }

-- One mark is set.
put_marks : (a i s : ℕ) (m : List ℕ) → base a + 7 * i < length m → s < 128 → s ≡ (view a m i).state → MarksAt a m (put a m i 0 (s + 128))
put_marks a i s m h l e =
    record { front = put_front a m i 0 (s + 128); shown = λ t j. seen j t; rest = kept; more = more }
  where
    w : List ℕ
    w = put a m i 0 (s + 128)

    here : tag a w i ≡ s + 128
    here = put_here a m i 0 (s + 128) (omega arith)

    other : (j : ℕ) → j ≢ i → tag a w j ≡ tag a m j
    other j q = put_slot a m i 0 (s + 128) j 0 (omega arith) (omega arith) q

    kept : (j f : ℕ) → 0 < f → f < 7 → word a w j f ≡ word a m j f
    kept j f p q = put_field a m i 0 (s + 128) j f (omega arith) q (λ z. omega arith)

    states : (j : ℕ) → tag a w j % 128 ≡ tag a m j % 128
    states j = elim (ℕ_discrete j i) [ yes q ↦ subst (λ k. tag a w k % 128 ≡ tag a m k % 128) (sym q) (let z = view_state a m i in let y = here in omega arith) | no q ↦ ap (λ n. n % 128) (other j q) ]

    seen : (j : ℕ) → view a w j ≡ view a m j
    seen j = view_same a m w j (states j) (kept j 1 (omega arith) (omega arith)) (kept j 2 (omega arith) (omega arith))

    more : (j : ℕ) → Marked a m j → Marked a w j
    more j b = elim (ℕ_discrete j i) [ yes q ↦ subst (λ k. Marked a w k) (sym q) (let y = here in omega arith) | no q ↦ (let z = other j q in omega arith) ]

-- And the quarters of marked squares are marked, if those of this one are.
put_closed : (a n i s d : ℕ) (m : List ℕ) → MarksAt a m (put a m i 0 (s + 128)) → ClosedAt a n m → Valid n (view a m) d i →
    ((p : ℕ) → Valid n (view a m) (suc p) i → KidsMarked a m (view a m i)) → ClosedAt a n (put a m i 0 (s + 128))
put_closed a n i s d m e c v k =
    record {
      only = λ j l b. subst (λ (x : Table). 2 ≤ (x j).state) (sym e.shown) (only j l b);
      parts = λ j p b g. subst (λ (x : Table). KidsMarked a w (x j)) (sym e.shown) (kids_more e (parts j p (subst (λ (x : Table). Valid n x (suc p) j) e.shown b) g));
    }
  where
    w : List ℕ
    w = put a m i 0 (s + 128)

    other : (j : ℕ) → j ≢ i → Marked a w j → Marked a m j
    other j q b = let z = put_slot a m i 0 (s + 128) j 0 (omega arith) (omega arith) q in omega arith

    only : (j : ℕ) → j < n → Marked a w j → 2 ≤ (view a m j).state
    only j l b = elim (ℕ_discrete j i) [ yes q ↦ subst (λ x. 2 ≤ (view a m x).state) (sym q) (let z = v.deep in omega arith) | no q ↦ c.only j l (other j q b) ]

    parts : (j p : ℕ) → Valid n (view a m) (suc p) j → Marked a w j → KidsMarked a m (view a m j)
    parts j p b g = elim (ℕ_discrete j i) [ yes q ↦ subst (λ x. KidsMarked a m (view a m x)) (sym q) (k p (subst (λ x. Valid n (view a m) (suc p) x) q b)) | no q ↦ c.parts j p b (other j q g) ]

-- Over the store: what a step leaves as it was, and two steps as one.
table_then : {v w : Store} → Fixed v w → MarksAt v.at (mem v) (mem w) → table w ≡ table v
table_then {v} {w} e p = ap (λ a. view a (mem w)) e.at ∙ p.shown

pub sound_then : {v w : Store} → Fixed v w → MarksAt v.at (mem v) (mem w) → Sound v.slots (table v) → Sound w.slots (table w)
sound_then e p = transport (λ t. Sound (sym e.slots t) (sym (table_then e p) t))

pub has_then : {v w : Store} {d i : ℕ} → Fixed v w → MarksAt v.at (mem v) (mem w) → Has v d i → Has w d i
has_then {d = d} {i = i} e p = transport (λ t. Valid (sym e.slots t) (sym (table_then e p) t) d i)

pub marks_at : {v w : Store} {m u : List ℕ} → Fixed v w → MarksAt w.at m u → MarksAt v.at m u
marks_at {m = m} {u = u} e = subst (λ a. MarksAt a m u) e.at

pub marked_at : {v w : Store} → Fixed v w → (m : List ℕ) (i : ℕ) → Marked w.at m i → Marked v.at m i
marked_at e m i = subst (λ a. Marked a m i) e.at

-- what is held stays held, and is a square
held_then : {v w : Store} {i : ℕ} → Laid v → Fixed v w → MarksAt v.at (mem v) (mem w) → (k : ℕ) → k < v.top → i ≡ held_in w.at (mem w) k → i ≡ held_in v.at (mem v) k
held_then {v} {w} p e m k l q = q ∙ ap (λ a. held_in a (mem w) k) e.at ∙ m.front.front (v.at + k) (let r = p.room in omega arith)

pub held_has : {v w : Store} {i : ℕ} → Laid v →
    ((k : ℕ) → k < v.top → (held_in v.at (mem v) k < v.slots) × (2 ≤ (table v (held_in v.at (mem v) k)).state)) →
    Fixed v w → MarksAt v.at (mem v) (mem w) → (k : ℕ) → k < v.top → i ≡ held_in w.at (mem w) k → (i < w.slots) × (2 ≤ (table w i).state)
held_has p h e m k l q = let z = sym (held_then p e m k l q) in transport (λ t. (z t < sym e.slots t) × (2 ≤ (sym (table_then e m) t (z t)).state)) (h k l)

-- one more hold's square is marked
pub held_more : {v w : Store} {u : List ℕ} {i : ℕ} → Laid v → Fixed v w → MarksAt v.at (mem v) (mem w) → MarksAt w.at (mem w) u → (k : ℕ) → k < v.top → i ≡ held_in w.at (mem w) k →
    ((j : ℕ) → j < k → Marked v.at (mem w) (held_in v.at (mem v) j)) → Marked w.at u i →
    (j : ℕ) → j < k + 1 → Marked v.at u (held_in v.at (mem v) j)
held_more {v} {u = u} {i = i} p e m more k l q h d j b =
    elim (ℕ_discrete j k) [
      | yes z ↦ subst (λ x. Marked v.at u x) (held_then p e m k l q ∙ ap (held_in v.at (mem v)) (sym z)) (marked_at e u i d)
      | no z ↦ (marks_at e more).more _ (h j (omega arith))
    ]

-- the quarters of a square that is no leaf
pub kids_each : {n d i : ℕ} {v : Table} {x : Node} {q : Quarters ℕ} {l : List ℕ} → l ≡ each_of q → q ≡ quarters_of x → x ≡ v i → 0 < d → Sound n v → Valid n v d i → All (Valid n v (d - 1)) l
kids_each {n} {d} {i} {v} e f g h s p =
    let k = s.kids i (d - 1) (record { here = p.here; deep = let z = p.deep in omega arith }) in
    subst (All (Valid n v (d - 1))) (sym (e ∙ ap each_of (f ∙ ap quarters_of g))) (all_each (Valid n v (d - 1)) (quarters_of (v i)) k.knw k.kne k.ksw k.kse)

-- marks were set, all quarters of square i among them
pub record Ready (v u : Store) (i : ℕ) : Type 0 where
  pub fixed : Fixed v u
  pub closed : Closed u
  pub marks : MarksAt v.at (mem v) (mem u)
  pub kids : (p : ℕ) → Has v (suc p) i → KidsMarked v.at (mem u) (table v i)

pub ready_leaf : {v : Store} {d i : ℕ} → d ≤ 0 → Has v d i → Closed v → Ready v v i
ready_leaf {v} l h c = record { fixed = fixed_refl v; closed = c; marks = marks_refl v.at (mem v); kids = λ p b. absurd (let y = h.deep in let z = b.deep in omega arith) }

pub ready_each : {v u : Store} {i : ℕ} {x : Node} {q : Quarters ℕ} {l : List ℕ} → l ≡ each_of q → q ≡ quarters_of x → x ≡ table v i →
    Fixed v u → Closed u → MarksAt v.at (mem v) (mem u) → All (Marked v.at (mem u)) l → Ready v u i
ready_each {v} {u} {i} e f g fixed c m d =
    let all : All (Marked v.at (mem u)) (each_of (quarters_of (table v i))) = subst (All (Marked v.at (mem u))) (e ∙ ap each_of (f ∙ ap quarters_of g)) d in
    record {
      fixed = fixed;
      closed = c;
      marks = m;
      kids = λ p b. record { mnw = all 0 0 (omega arith); mne = all 1 0 (omega arith); msw = all 2 0 (omega arith); mse = all 3 0 (omega arith) };
    }

-- one square more of several
pub each_more : {v w : Store} {u : List ℕ} (l : List ℕ) {k : ℕ} → Fixed v w → MarksAt w.at (mem w) u → k < length l → All (Marked v.at (mem w)) (take k l) → Marked w.at u (get_or l k 0) → All (Marked v.at u) (take (k + 1) l)
each_more {v} {u = u} l {k = k} e more h a d = All-more (Marked v.at u) l k 0 h (λ j z b. (marks_at e more).more _ (a j z b)) (marked_at e u _ d)

-- square i was marked, and all that it is made of
pub record Done (v w : Store) (i : ℕ) : Type 0 where
  pub fixed : Fixed v w
  pub closed : Closed w
  pub marks : MarksAt v.at (mem v) (mem w)
  pub done : Marked v.at (mem w) i

pub mark_last : (v u w : Store) (d i : ℕ) → Laid v → Has v d i → Ready v u i → mem w ≡ put u.at (mem u) i 0 ((table u i).state + 128) → Fixed u w → Done v w i
mark_last v u w d i laid has r f g =
    let a = v.at in let n = v.slots in let sh = r.marks.shown in let s = (view a (mem u) i).state in
    let after : mem w ≡ put a (mem u) i 0 (s + 128) = f ∙ ap (λ x. put x (mem u) i 0 ((view x (mem u) i).state + 128)) r.fixed.at in
    let in_range : base a + 7 * i < length (mem u) = (let x = laid.fits in let y = has.here in let z = r.fixed.long in omega arith) in
    let small : s < 128 = (let x = view_state a (mem u) i in omega arith) in
    let marks = put_marks a i s (mem u) in_range small refl in
    let closed =
    put_closed a n i s d (mem u) marks (transport (λ t. ClosedAt (r.fixed.at t) (r.fixed.slots t) (mem u)) r.closed) (subst (λ (t : Table). Valid n t d i) (sym sh) has)
    (λ p b. subst (λ (t : Table). KidsMarked a (mem u) (t i)) (sym sh) (r.kids p (subst (λ (t : Table). Valid n t (suc p) i) sh b))) in
    let fixed = fixed_trans r.fixed g in
    let here = put_here a (mem u) i 0 (s + 128) (omega arith) in
    record {
      fixed = fixed;
      closed = transport (λ t. ClosedAt (sym fixed.at t) (sym fixed.slots t) (sym after t)) closed;
      marks = marks_trans r.marks (subst (λ x. MarksAt a (mem u) x) (sym after) marks);
      done = subst (λ x. Marked a x i) (sym after) (omega arith);
    }
