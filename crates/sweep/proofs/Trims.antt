-- The first pass: notes that name squares that are not marked.
use mathlib.Core.Path.{◌≡◌, refl, sym, ap, subst, ◌∙◌}
use mathlib.Core.Bool.{Bool, true, false, cond, ◌||◌}
use mathlib.Core.List.{List}
use mathlib.Core.Logic.{◌≢◌}
use Prim.Native.Nat.{ℕ, ◌+◌, ◌*◌, ◌%◌, ◌<◌, ◌≤◌}
use native.Mathlib.Omega.{arith}
use native.Mathlib.Decide.{dec_lt}
use lib.Dec.{leb, ltb, eqb}
use lib.ListN.{length}
use lib.Seq.{set-get_or}
use Rattle.nodes.specs.Memory.{base, word, tag, view, Marked, kind_of, target_of}
use Rattle.nodes.proofs.Memory.{put, put_long, put_here, put_field, put_slot, put_front, front_refl, front_trans, view_same}
use Rattle.sweep.specs.Sweeps.{naming, trimmed, with_trimmed, TrimmedAt}

pub naming_none : (a n : ℕ) (m : List ℕ) (w : ℕ) → kind_of w ≡ 0 → true ≡ naming a n m w
unfolding naming
naming_none a n m w e = one (kind_of w) _ e
  where
    one : (k : ℕ) (b : Bool) → k ≡ 0 → true ≡ (eqb k 0 || b)
    one k b e = grind arith

named : (a n : ℕ) (m : List ℕ) (w : ℕ) → kind_of w ≢ 0 → naming a n m w ≡ cond (ltb (target_of w) n) (leb 128 (tag a m (target_of w))) false
unfolding naming
named a n m w e = one (kind_of w) _ e
  where
    one : (k : ℕ) (b : Bool) → k ≢ 0 → (eqb k 0 || b) ≡ b
    one k b e = grind arith

pub naming_beyond : (a n : ℕ) (m : List ℕ) (w : ℕ) → kind_of w ≢ 0 → n ≤ target_of w → false ≡ naming a n m w
naming_beyond a n m w e h = one (target_of w) n _ h ∙ sym (named a n m w e)
  where
    one : (k n : ℕ) (b : Bool) → n ≤ k → false ≡ cond (ltb k n) b false
    one k n b e = grind arith

pub naming_tag : (a n : ℕ) (m : List ℕ) (w : ℕ) → kind_of w ≢ 0 → target_of w < n → leb 128 (tag a m (target_of w)) ≡ naming a n m w
naming_tag a n m w e h = one (target_of w) n _ h ∙ sym (named a n m w e)
  where
    one : (k n : ℕ) (b : Bool) → k < n → b ≡ cond (ltb k n) b false
    one k n b e = grind arith

-- a note that names a square and stays
pub naming_is : (a n : ℕ) (m : List ℕ) (w : ℕ) → true ≡ naming a n m w → kind_of w ≢ 0 → (target_of w < n) × Marked a m (target_of w)
naming_is a n m w e h = one (target_of w) n (tag a m (target_of w)) (e ∙ named a n m w h)
  where
    low : (k n g : ℕ) → true ≡ cond (ltb k n) (leb 128 g) false → k < n
    low k n g e = grind arith

    high : (k n g : ℕ) → true ≡ cond (ltb k n) (leb 128 g) false → 128 ≤ g
    high k n g e = grind arith

    one : (k n g : ℕ) → true ≡ cond (ltb k n) (leb 128 g) false → (k < n) × (128 ≤ g)
    one k n g e = (low k n g e, high k n g e)

trimmed_same : (a n : ℕ) (m w : List ℕ) (x y : ℕ) → ((i : ℕ) → tag a w i ≡ tag a m i) → x ≡ y → trimmed a n w x ≡ trimmed a n m y
unfolding naming
trimmed_same a n m w x y h e = (λ i. trimmed a n w (e i)) ∙ (λ i. cond (eqb (kind_of y) 0 || cond (ltb (target_of y) n) (leb 128 (h (target_of y) i)) false) y 0)

pub trim_stays : (a n : ℕ) (m : List ℕ) (i f : ℕ) → true ≡ naming a n m (word a m i f) → m ≡ with_trimmed a n m i f
trim_stays a n m i f e = sym (set-get_or m (base a + 7 * i + f) 0) ∙ (λ t. put a m i f (cond (e t) (word a m i f) 0))

-- one note of slot k
trim_here : (a n : ℕ) (m : List ℕ) (k f : ℕ) → base a + 7 * k + f < length m → word a (with_trimmed a n m k f) k f ≡ trimmed a n m (word a m k f)
trim_here a n m k f h = put_here a m k f (trimmed a n m (word a m k f)) h

pub trimmed_none : (a n : ℕ) (m : List ℕ) → TrimmedAt a n 0 m m
trimmed_none a n m =
    record { front = front_refl (base a) m; nodes = λ i f l. refl; counts = λ i f l h. refl; notes = λ i f l. absurd (omega arith); others = λ i f l p q. refl; later = λ i f l p q. refl }

pub trimmed_skip : (a n k : ℕ) (m w : List ℕ) → TrimmedAt a n k m w → tag a m k < 128 → TrimmedAt a n (k + 1) m w
trimmed_skip a n k m w s h =
    record {
      front = s.front;
      nodes = s.nodes;
      counts = s.counts;
      notes = λ i f l b p q. elim (dec_lt i k) [
        | yes r ↦ s.notes i f r b p q
        | no r ↦ let z : i ≡ k = omega arith in let y : Marked a m k = subst (λ (j : ℕ). Marked a m j) z b in absurd (omega arith)
      ];
      others = s.others;
      later = λ i f l p q. s.later i f (omega arith) p q;
    }

trimmed_two : (a n k : ℕ) (m w : List ℕ) → TrimmedAt a n k m w → Marked a m k → base a + 7 * k + 7 ≤ length m → TrimmedAt a n (k + 1) m (with_trimmed a n (with_trimmed a n w k 3) k 4)
trimmed_two a n k m w s b h =
    record {
      front = front_trans s.front (front_trans (put_front a w k 3 _) (put_front a u k 4 _));
      nodes = λ i f l. beside i f (omega arith) (λ e. omega arith) (λ e. omega arith) ∙ s.nodes i f l;
      counts = λ i f l p. beside i f p (λ e. omega arith) (λ e. omega arith) ∙ s.counts i f l p;
      notes = λ i f l b p q. elim (dec_lt i k) [
        | yes r ↦ other i f (λ e. omega arith) (omega arith) ∙ s.notes i f r b p q
        | no r ↦ let z : k ≡ i = omega arith in subst (λ (j : ℕ). word a v j f ≡ trimmed a n m (word a m j f)) z (here f p q)
      ];
      others = λ i f l p q. other i f (λ e. let z = subst (λ (j : ℕ). tag a m j < 128) e l in omega arith) (omega arith) ∙ s.others i f l p q;
      later = λ i f l p q. other i f (λ e. omega arith) (omega arith) ∙ s.later i f (omega arith) p q;
    }
  where
    u : List ℕ
    u = with_trimmed a n w k 3

    v : List ℕ
    v = with_trimmed a n u k 4

    long : length u ≡ length m
    long = put_long a w k 3 _ ∙ s.front.long

    beside : (i f : ℕ) → f < 7 → f ≢ 3 → f ≢ 4 → word a v i f ≡ word a w i f
    beside i f l p q = put_field a u k 4 _ i f (omega arith) l q ∙ put_field a w k 3 _ i f (omega arith) l p

    other : (i f : ℕ) → i ≢ k → f < 7 → word a v i f ≡ word a w i f
    other i f ne l = put_slot a u k 4 _ i f (omega arith) l ne ∙ put_slot a w k 3 _ i f (omega arith) l ne

    tags : (i : ℕ) → tag a u i ≡ tag a m i
    tags i = put_field a w k 3 _ i 0 (omega arith) (omega arith) (λ e. omega arith) ∙ s.nodes i 0 (omega arith)

    three : word a v k 3 ≡ trimmed a n m (word a m k 3)
    three = put_field a u k 4 _ k 3 (omega arith) (omega arith) (λ e. omega arith) ∙ trim_here a n w k 3 (let e = s.front.long in omega arith) ∙
        trimmed_same a n m w _ _ (λ i. s.nodes i 0 (omega arith)) (s.later k 3 (omega arith) (omega arith) (omega arith))

    four : word a v k 4 ≡ trimmed a n m (word a m k 4)
    four = trim_here a n u k 4 (let e = long in omega arith) ∙
        trimmed_same a n m u _ _ tags (put_field a w k 3 _ k 4 (omega arith) (omega arith) (λ e. omega arith) ∙ s.later k 4 (omega arith) (omega arith) (omega arith))

    here : (f : ℕ) → 3 ≤ f → f ≤ 4 → word a v k f ≡ trimmed a n m (word a m k f)
    here f p q = elim (dec_lt f 4) [
      | yes r ↦ let z : 3 ≡ f = omega arith in subst (λ (g : ℕ). word a v k g ≡ trimmed a n m (word a m k g)) z three
      | no r ↦ let z : 4 ≡ f = omega arith in subst (λ (g : ℕ). word a v k g ≡ trimmed a n m (word a m k g)) z four
    ]

-- both notes of a marked slot
pub trimmed_more : {b l c d : ℕ} (a n k : ℕ) (m w u v : List ℕ) → TrimmedAt a n k m w → Marked a m k → base a + 7 * k + 7 ≤ length m → b ≡ a → l ≡ n → u ≡ with_trimmed b l w k 3 → c ≡ a → d ≡ n → v ≡ with_trimmed c d u k 4 →
    TrimmedAt a n (k + 1) m v
trimmed_more a n k m w u v s b h p q e r t f =
    let first : u ≡ with_trimmed a n w k 3 = e ∙ (λ i. with_trimmed (p i) (q i) w k 3) in
    let second : v ≡ with_trimmed a n u k 4 = f ∙ (λ i. with_trimmed (r i) (t i) u k 4) in
    subst (TrimmedAt a n (k + 1) m) (sym (second ∙ (λ i. with_trimmed a n (first i) k 4))) (trimmed_two a n k m w s b h)

pub trimmed_view : {a n k : ℕ} {m w : List ℕ} → TrimmedAt a n k m w → (i : ℕ) → view a w i ≡ view a m i
trimmed_view {a = a} {m = m} {w = w} s i = view_same a m w i (ap (λ (z : ℕ). z % 128) (s.nodes i 0 (omega arith))) (s.nodes i 1 (omega arith)) (s.nodes i 2 (omega arith))
