-- What a sweep leaves of a store in which all that is needed is marked, and what its two passes do.
use Rattle.std.specs.Prelude.{◌≡◌, Bool, false, cond, ◌||◌, List, ◌⊎◌, ℕ, zero, suc, ◌+◌, ◌*◌, ◌%◌, ◌<◌, ◌≤◌, min, leb, ltb, eqb, set}
use Rattle.nodes.specs.Nodes.{Table, away, home_of}
use Rattle.nodes.specs.Memory.{base, word, tag, view, Marked, kind_of, target_of, FrontAt}
use Rattle.sweep.specs.declared.Survey.{Survey}

-- whether the square that a note names is marked; a note of kind 0 names none
unfoldable pub naming : (a n : ℕ) → List ℕ → ℕ → Bool
naming a n m w = eqb (kind_of w) 0 || cond (ltb (target_of w) n) (leb 128 (tag a m (target_of w))) false

-- what is left of a note
abbrev pub trimmed : (a n : ℕ) → List ℕ → ℕ → ℕ
trimmed a n m w = cond (naming a n m w) w 0

-- the memory after note f of slot i is trimmed
abbrev pub with_trimmed : (a n : ℕ) → List ℕ → (i f : ℕ) → List ℕ
with_trimmed a n m i f = set m (base a + 7 * i + f) (trimmed a n m (word a m i f))

-- where the search for the square in each slot begins
abbrev pub homes : ℕ → Table → ℕ → ℕ
homes n v i = home_of n (v i)

-- how many of the slots below k are marked, by their tags
unfoldable pub marks : (ℕ → ℕ) → ℕ → ℕ
marks t zero = 0
marks t (suc k) = marks t k + cond (leb 128 (t k)) 1 0

-- the search for a square in a marked slot below k passes slot u; slot i has the tag t i and the home h i
pub record Passed (n k : ℕ) (t h : ℕ → ℕ) (u : ℕ) : Type 0 where
  pub by : ℕ
  pub within : by < k
  pub marked : 128 ≤ t by
  pub passes : away n (h by) u < away n (h by) by

-- what there is to know of the marked slots below k: how many they are, and how far those reach whose search wraps around
pub record Found (n k : ℕ) (t h : ℕ → ℕ) (x : Survey) : Type 0 where
  pub count : x.count ≡ marks t k
  pub low : (i : ℕ) → i < k → 128 ≤ t i → i < h i → x.low ≤ h i
  pub high : (i : ℕ) → i < k → 128 ≤ t i → i < h i → i ≤ x.high
  pub above : (u : ℕ) → u < n → x.low ≤ u → Passed n k t h u
  pub below : (u : ℕ) → u < x.high → Passed n k t h u

-- with the marked slot i, the greatest so far
abbrev pub survey_with : Survey → (i h : ℕ) → Survey
survey_with x i h = record { count = x.count + 1; low = cond (ltb i h) (min x.low h) x.low; high = cond (ltb i h) i x.high }

-- the first pass has come to slot k: of the marked slots before it, notes that name squares that are not marked are gone
pub record TrimmedAt (a n k : ℕ) (m w : List ℕ) : Type 0 where
  pub front : FrontAt (base a) m w
  pub nodes : (i f : ℕ) → f < 3 → word a w i f ≡ word a m i f
  pub counts : (i f : ℕ) → 5 ≤ f → f < 7 → word a w i f ≡ word a m i f
  pub notes : (i f : ℕ) → i < k → Marked a m i → 3 ≤ f → f ≤ 4 → word a w i f ≡ trimmed a n m (word a m i f)
  pub others : (i f : ℕ) → tag a m i < 128 → 3 ≤ f → f ≤ 4 → word a w i f ≡ word a m i f
  pub later : (i f : ℕ) → k ≤ i → 3 ≤ f → f ≤ 4 → word a w i f ≡ word a m i f

-- The tag x that slot i gets. A marked slot loses its mark. Any other is free if the search for a marked square passes it, so that the search goes on, else empty.
pub record NewTag (n : ℕ) (t h : ℕ → ℕ) (i x : ℕ) : Type 0 where
  pub kept : 128 ≤ t i → x ≡ t i % 128
  pub others : t i < 128 → ((x ≡ 1) × Passed n n t h i) ⊎ ((x ≡ 0) × (Passed n n t h i → ⊥))

-- the second pass has come down to slot k: the slots from there on have their new tags
pub record RetaggedAt (a n k : ℕ) (m w : List ℕ) : Type 0 where
  pub front : FrontAt (base a) m w
  pub rest : (i f : ℕ) → 0 < f → f < 7 → word a w i f ≡ word a m i f
  pub before : (i : ℕ) → i < k → tag a w i ≡ tag a m i
  pub tags : (i : ℕ) → k ≤ i → i < n → NewTag n (tag a m) (homes n (view a m)) i (tag a w i)

-- each slot has its new tag, and marked slots are else as they were but for notes that name squares that are not marked
pub record SweptAt (a n : ℕ) (m w : List ℕ) : Type 0 where
  pub front : FrontAt (base a) m w
  pub tags : (i : ℕ) → i < n → NewTag n (tag a m) (homes n (view a m)) i (tag a w i)
  pub nodes : (i f : ℕ) → i < n → Marked a m i → 0 < f → f < 3 → word a w i f ≡ word a m i f
  pub notes : (i f : ℕ) → i < n → Marked a m i → 3 ≤ f → f ≤ 4 → word a w i f ≡ trimmed a n m (word a m i f)
  pub counts : (i f : ℕ) → i < n → Marked a m i → 5 ≤ f → f < 7 → word a w i f ≡ word a m i f
