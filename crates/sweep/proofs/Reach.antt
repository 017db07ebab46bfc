-- Which slots the searches for marked squares pass, by the tags and homes of the slots.
use mathlib.Core.Path.{◌≡◌, refl, sym, ap, subst, ◌∙◌}
use mathlib.Core.Bool.{Bool, true, false, cond, ◌||◌}
use Prim.Native.Nat.{ℕ, zero, suc, ◌+◌, ◌-◌, ◌<◌, ◌≤◌, min}
use native.Mathlib.Omega.{arith}
use native.Mathlib.Numerals.{add-one}
use native.Mathlib.Decide.{dec_lt}
use lib.Dec.{T, leb, ltb}
use Rattle.nodes.specs.Nodes.{away}
use Rattle.sweep.specs.declared.Survey.{Survey}
use Rattle.sweep.specs.Sweeps.{marks, Passed, Found, survey_with}

away_above : (n h i u : ℕ) → i < h → h ≤ u → u < n → away n h u < away n h i
away_above n h i u a b c = grind arith

away_below : (n h i u : ℕ) → i < h → h < n → u < i → away n h u < away n h i
away_below n h i u a b c = grind arith

away_between : (n h i u : ℕ) → h ≤ u → u < i → away n h u < away n h i
away_between n h i u a b = grind arith

away_free : (n h i u least low high : ℕ) → i < n → u < least → u < low → high ≤ u → (i < h → low ≤ h) → (i < h → i ≤ high) → (u < i → least ≤ h) → away n h u < away n h i → ⊥
away_free n h i u least low high a b c d p q r w = grind arith

passed_more : {n k u : ℕ} {t h : ℕ → ℕ} → Passed n k t h u → Passed n (suc k) t h u
passed_more p = let w = p.within in record { by = p.by; within = omega arith; marked = p.marked; passes = p.passes }

marks_skip : (t : ℕ → ℕ) (k : ℕ) → t k < 128 → marks t (suc k) ≡ marks t k
unfolding marks
marks_skip t k l = one (t k) (marks t k) l
  where
    one : (x s : ℕ) → x < 128 → s + cond (leb 128 x) 1 0 ≡ s
    one x s l = grind arith

marks_more : (t : ℕ → ℕ) (k : ℕ) → 128 ≤ t k → marks t (suc k) ≡ marks t k + 1
unfolding marks
marks_more t k l = one (t k) (marks t k) l
  where
    one : (x s : ℕ) → 128 ≤ x → s + cond (leb 128 x) 1 0 ≡ s + 1
    one x s l = grind arith

pub marks_few : (t : ℕ → ℕ) (k : ℕ) → marks t k ≤ k
unfolding marks
marks_few t zero = omega arith
marks_few t (suc k) = let p = marks_few t k in one (leb 128 (t k)) (marks t k) k p
  where
    one : (b : Bool) (m k : ℕ) → m ≤ k → m + cond b 1 0 ≤ suc k
    one true m k h = omega arith
    one false m k h = omega arith

pub found_none : (n : ℕ) (t h : ℕ → ℕ) → Found n 0 t h (record { count = 0; low = n; high = 0 })
unfolding marks
found_none n t h =
    record { count = refl; low = λ i l. absurd (omega arith); high = λ i l. absurd (omega arith); above = λ u l p. absurd (omega arith); below = λ u l. absurd (omega arith) }

found_skip_suc : (n k : ℕ) (t h : ℕ → ℕ) (x : Survey) → Found n k t h x → t k < 128 → Found n (suc k) t h x
found_skip_suc n k t h x f e =
    record {
      count = f.count ∙ sym (marks_skip t k e);
      low = λ i l b w. f.low i (before i l b) b w;
      high = λ i l b w. f.high i (before i l b) b w;
      above = λ u l p. passed_more (f.above u l p);
      below = λ u l. passed_more (f.below u l);
    }
  where
    before : (i : ℕ) → i < suc k → 128 ≤ t i → i < k
    before i l b = elim (dec_lt i k) [ yes p ↦ p | no p ↦ let z : i ≡ k = omega arith in let y : 128 ≤ t k = subst (λ (j : ℕ). 128 ≤ t j) z b in absurd (omega arith) ]

found_wraps : (n k : ℕ) (t h : ℕ → ℕ) (x y : Survey) → Found n k t h x → 128 ≤ t k → k < h k → h k < n → y.count ≡ x.count + 1 → y.low ≡ min x.low (h k) → y.high ≡ k → Found n (suc k) t h y
found_wraps n k t h x y f m w b c e g =
    record {
      count = c ∙ ap (λ (z : ℕ). z + 1) f.count ∙ sym (marks_more t k m);
      low = λ i l p q. elim (dec_lt i k) [
        | yes r ↦ let z = f.low i r p q in omega arith
        | no r ↦ let z : k ≡ i = omega arith in subst (λ (j : ℕ). y.low ≤ h j) z (omega arith)
      ];
      high = λ i l p q. omega arith;
      above = λ u l p. elim (dec_lt u x.low) [
        | yes r ↦ record { by = k; within = omega arith; marked = m; passes = away_above n (h k) k u w (omega arith) l }
        | no r ↦ passed_more (f.above u l (omega arith))
      ];
      below = λ u l. record { by = k; within = omega arith; marked = m; passes = away_below n (h k) k u w b (omega arith) };
    }

found_straight : (n k : ℕ) (t h : ℕ → ℕ) (x y : Survey) → Found n k t h x → 128 ≤ t k → h k ≤ k → y.count ≡ x.count + 1 → y.low ≡ x.low → y.high ≡ x.high → Found n (suc k) t h y
found_straight n k t h x y f m w c e g =
    record {
      count = c ∙ ap (λ (z : ℕ). z + 1) f.count ∙ sym (marks_more t k m);
      low = λ i l p q. let z = f.low i (before i l q) p q in omega arith;
      high = λ i l p q. let z = f.high i (before i l q) p q in omega arith;
      above = λ u l p. passed_more (f.above u l (omega arith));
      below = λ u l. passed_more (f.below u (omega arith));
    }
  where
    before : (i : ℕ) → i < suc k → i < h i → i < k
    before i l q = elim (dec_lt i k) [ yes p ↦ p | no p ↦ let z : i ≡ k = omega arith in let y : k < h k = subst (λ (j : ℕ). j < h j) z q in absurd (omega arith) ]

low_wraps : (k h l : ℕ) → k < h → cond (ltb k h) (min l h) l ≡ min l h
low_wraps k h l w = grind arith

high_wraps : (k h l : ℕ) → k < h → cond (ltb k h) k l ≡ k
high_wraps k h l w = grind arith

low_straight : (k h l : ℕ) → h ≤ k → cond (ltb k h) (min l h) l ≡ l
low_straight k h l w = grind arith

high_straight : (k h l : ℕ) → h ≤ k → cond (ltb k h) k l ≡ l
high_straight k h l w = grind arith

found_more_suc : (n k : ℕ) (t h : ℕ → ℕ) (x : Survey) → Found n k t h x → 128 ≤ t k → h k < n → Found n (suc k) t h (survey_with x k (h k))
found_more_suc n k t h x f m b = elim (dec_lt k (h k)) [
  | yes w ↦ found_wraps n k t h x (survey_with x k (h k)) f m w b refl (low_wraps k (h k) x.low w) (high_wraps k (h k) x.high w)
  | no w ↦ let l : h k ≤ k = omega arith in found_straight n k t h x (survey_with x k (h k)) f m l refl (low_straight k (h k) x.low l) (high_straight k (h k) x.high l)
]

pub found_skip : (n k : ℕ) (t h : ℕ → ℕ) (x : Survey) → Found n k t h x → t k < 128 → Found n (k + 1) t h x
found_skip n k t h x f e = rw (add-one k) (found_skip_suc n k t h x f e)

pub found_more : (n k : ℕ) (t h : ℕ → ℕ) (x : Survey) → Found n k t h x → 128 ≤ t k → h k < n → Found n (k + 1) t h (survey_with x k (h k))
found_more n k t h x f m b = rw (add-one k) (found_more_suc n k t h x f m b)

-- least is the least home of the marked slots from k on, as far as the slots before k are concerned
pub record Least (n k : ℕ) (t h : ℕ → ℕ) (least : ℕ) : Type 0 where
  pub low : (i : ℕ) → k ≤ i → i < n → 128 ≤ t i → least ≤ h i
  pub only : (u : ℕ) → u < k → least ≤ u → Passed n n t h u

pub least_none : (n : ℕ) (t h : ℕ → ℕ) → Least n n t h n
least_none n t h = record { low = λ i l b. absurd (omega arith); only = λ u l b. absurd (omega arith) }

pub least_skip : (n k : ℕ) (t h : ℕ → ℕ) (least : ℕ) → Least n k t h least → t (k - 1) < 128 → Least n (k - 1) t h least
least_skip n k t h least f e =
    record {
      low = λ i l b m. elim (dec_lt i k) [
        | yes p ↦ let z : i ≡ k - 1 = omega arith in let y : 128 ≤ t (k - 1) = subst (λ (j : ℕ). 128 ≤ t j) z m in absurd (omega arith)
        | no p ↦ f.low i (omega arith) b m
      ];
      only = λ u l b. f.only u (omega arith) b;
    }

pub least_more : (n k : ℕ) (t h : ℕ → ℕ) (least : ℕ) → Least n k t h least → k ≤ n → 0 < k → 128 ≤ t (k - 1) → Least n (k - 1) t h (min least (h (k - 1)))
least_more n k t h least f c d e =
    record {
      low = λ i l b m. elim (dec_lt i k) [
        | yes p ↦ let z : k - 1 ≡ i = omega arith in subst (λ (j : ℕ). min least (h (k - 1)) ≤ h j) z (omega arith)
        | no p ↦ let y = f.low i (omega arith) b m in omega arith
      ];
      only = λ u l b. elim (dec_lt u least) [
        | yes p ↦ record { by = k - 1; within = omega arith; marked = e; passes = away_between n (h (k - 1)) (k - 1) u (omega arith) l }
        | no p ↦ f.only u (omega arith) (omega arith)
      ];
    }

-- what the test on a slot that is not marked tells
pub passing : (n k : ℕ) (t h : ℕ → ℕ) (x : Survey) (least : ℕ) → Found n n t h x → Least n k t h least → 0 < k → k ≤ n →
    T (leb least (k - 1) || (leb x.low (k - 1) || ltb (k - 1) x.high)) → Passed n n t h (k - 1)
passing n k t h x least f g p l b = go (dec_lt (k - 1) least) (dec_lt (k - 1) x.low) (dec_lt (k - 1) x.high)
  where
    ways : (u least low high : ℕ) → u < least → u < low → high ≤ u → T (leb least u || (leb low u || ltb u high)) → ⊥
    ways u least low high a b c d = grind arith

    go : Dec (k - 1 < least) → Dec (k - 1 < x.low) → Dec (k - 1 < x.high) → Passed n n t h (k - 1)
    go (no a) _ _ = g.only (k - 1) (omega arith) (omega arith)
    go (yes a) (no c) _ = f.above (k - 1) (omega arith) (omega arith)
    go (yes a) (yes c) (yes d) = f.below (k - 1) d
    go (yes a) (yes c) (no d) = absurd (ways (k - 1) least x.low x.high a c (omega arith) b)

pub not_passing : (n k : ℕ) (t h : ℕ → ℕ) (x : Survey) (least : ℕ) → Found n n t h x → Least n k t h least → 0 < k →
    (T (leb least (k - 1) || (leb x.low (k - 1) || ltb (k - 1) x.high)) → ⊥) → Passed n n t h (k - 1) → ⊥
not_passing n k t h x least f g p b q =
    let w = ways (k - 1) least x.low x.high b in let i = q.by in
    away_free n (h i) i (k - 1) least x.low x.high q.within w.0 w.1 w.2 (f.low i q.within q.marked) (f.high i q.within q.marked)
    (λ l. g.low i (omega arith) q.within q.marked) q.passes
  where
    one : (u least low high : ℕ) → (T (leb least u || (leb low u || ltb u high)) → ⊥) → u < least
    one u least low high b = grind arith

    two : (u least low high : ℕ) → (T (leb least u || (leb low u || ltb u high)) → ⊥) → u < low
    two u least low high b = grind arith

    three : (u least low high : ℕ) → (T (leb least u || (leb low u || ltb u high)) → ⊥) → high ≤ u
    three u least low high b = grind arith

    ways : (u least low high : ℕ) → (T (leb least u || (leb low u || ltb u high)) → ⊥) → (u < least) × (u < low) × (high ≤ u)
    ways u least low high b = (one u least low high b, two u least low high b, three u least low high b)
