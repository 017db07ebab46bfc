-- The search from slot to slot.
use Rattle.std.proofs.Common.{◌≡◌, ℕ, zero, suc, ◌+◌, ◌-◌, ◌++◌, List, [], ◌∷◌, length, get_or, ◌<◌, ◌≤◌, true, false, ◌&&◌, cond, eqb, leb, ◌⊎◌, Some, None, Option, sym, refl, ap, ◌∙◌, subst, inl, inr, arith}
use native.Mathlib.Decide.{dec_lt, ℕ_discrete}
use Rattle.nodes.specs.declared.Node.{Node}
use Rattle.nodes.specs.Nodes.{Table, away, home_of, Sound, used}
use Rattle.nodes.proofs.Tables.{home_within}
use Rattle.std.specs.List.{range_with_len}
use Rattle.std.specs.declared.ops.Range.{Range}
use Rattle.std.specs.declared.iter.Chain.{Chain}
use Rattle.std.specs.Iterator.{Yields}
use Rattle.std.specs.Iterator.Adapters.{chain_first, chain_second, chain_first_done, chain_second_done, chain_steps}
use Rattle.std.proofs.iter.Yields.{nat_range_steps}
use Rattle.std.proofs.lemmas.Iterator.{YieldsList, YieldsList-from_range}
use Rattle.std.proofs.lemmas.Iterator.Consumers.{YieldsList-from_chain, YieldsList-turn, YieldsList-end}
use Rattle.std.proofs.lemmas.List.{length_push, length-append, get_or_append_left, get_or-append_right}
use Rattle.std.proofs.lemmas.List.FromFn.{length-range_with_len, get_or-range_with_len}
use Rattle.std.specs.Option.{unwrap_or, option_or}
use Rattle.probe.specs.Places.{Fit}

-- two nodes compared
all_equal : (a b c d e f : ℕ) → true ≡ (eqb a b && (eqb c d && eqb e f)) → (a ≡ b) × (c ≡ d) × (e ≡ f)
all_equal a b c d e f h = (grind arith, grind arith, grind arith)

pub node_same : (x y : Node) → true ≡ (eqb x.state y.state && (eqb x.upper y.upper && eqb x.lower y.lower)) → x ≡ y
node_same x y h = let e = all_equal _ _ _ _ _ _ h in λ i. record { state = e.0 i; upper = e.1 i; lower = e.2 i }

self_equal : (a b c : ℕ) → false ≡ (eqb a a && (eqb b b && eqb c c)) → ⊥
self_equal a b c h = grind arith

pub node_other : (x y : Node) → false ≡ (eqb x.state y.state && (eqb x.upper y.upper && eqb x.lower y.lower)) → x ≡ y → ⊥
node_other x y h e = self_equal y.state y.upper y.lower (h ∙ (λ i. eqb (e i).state y.state && (eqb (e i).upper y.upper && eqb (e i).lower y.lower)))

-- ---- steps from a slot h
away_few : (n h u : ℕ) → h < n → u < n → away n h u < n
away_few n h u p q = grind arith

away_inj : (n h u i : ℕ) → h < n → u < n → i < n → away n h u ≡ away n h i → u ≡ i
away_inj n h u i p q r e = grind arith

-- the slots in the order in which the search from h comes to them
abbrev pub way : ℕ → ℕ → List ℕ
way n h = range_with_len h (n - h) ++ range_with_len 0 (h - 0)

way_long : (n h : ℕ) → h < n → length (way n h) ≡ n
way_long n h p =
    let a = length-append (range_with_len h (n - h)) (range_with_len 0 (h - 0)) in let b = length-range_with_len h (n - h) in let c = length-range_with_len 0 (h - 0) in
    omega arith

-- slot i comes after k others
abbrev pub Comes : (n h k i : ℕ) → Type 0
Comes n h k i = (i < n) × (away n h i ≡ k)

comes_up : (n h k i : ℕ) → h < n → k < n - h → i ≡ h + k → Comes n h k i
comes_up n h k i p q e = (omega arith, grind arith)

comes_round : (n h k i : ℕ) → h < n → k < n → n - h ≤ k → i ≡ 0 + (k - (n - h)) → Comes n h k i
comes_round n h k i p q r e = (omega arith, grind arith)

comes : (n h k i : ℕ) → h < n → k < length (way n h) → i ≡ get_or (way n h) k i → Comes n h k i
comes n h k i p q e =
    let l = way_long n h p in let a = length-range_with_len h (n - h) in
    elim (dec_lt k (n - h)) [
      | yes y ↦ comes_up n h k i p y (e ∙ get_or_append_left (range_with_len h (n - h)) (range_with_len 0 (h - 0)) i k (omega arith) ∙ get_or-range_with_len h (n - h) k i y)
      | no y ↦ comes_round n h k i p (omega arith) (omega arith)
          (e ∙ get_or-append_right (range_with_len h (n - h)) (range_with_len 0 (h - 0)) (n - h) k i a (omega arith) ∙ get_or-range_with_len 0 (h - 0) (k - (n - h)) i (omega arith))
    ]

-- the chain s of two ranges gives the slots on the way of x
abbrev pub Round : (n : ℕ) (x : Node) (s : Chain (Range ℕ) (Range ℕ)) → Type 0
Round n x s = (chain_first s ≡ record { start = home_of n x; end = n }) × (chain_second s ≡ record { start = 0; end = home_of n x }) × (chain_first_done s ≡ false) × (chain_second_done s ≡ false)

abbrev pub Steps : Chain (Range ℕ) (Range ℕ) → Option ℕ → Chain (Range ℕ) (Range ℕ) → Type 0
Steps = chain_steps nat_range_steps nat_range_steps

round : (n : ℕ) (x : Node) (s : Chain (Range ℕ) (Range ℕ)) → Round n x s → YieldsList Steps (λ x. x) s (way n (home_of n x))
round n x s r = let h = home_of n x in YieldsList-from_chain (YieldsList-from_range h n (n - h) r.0 refl) (YieldsList-from_range 0 h (h - 0) r.1 refl) r.2 r.3

-- the slot at which a turn looks
pub turn : (n : ℕ) (x : Node) (ys : List ℕ) {s : Chain (Range ℕ) (Range ℕ)} (t u : Chain (Range ℕ) (Range ℕ)) {r : Option ℕ} {i : ℕ} → 0 < n → Yields Steps s ys t → r ≡ Some i → Steps t r u → Round n x s → Comes n (home_of n x) (length ys) i
turn n x ys t u p y e g o = let z = YieldsList-turn (round n x _ o) ys _ y _ _ _ e g in comes n (home_of n x) (length ys) _ (home_within n x p) z.0 z.1

pub ended : (n : ℕ) (x : Node) (ys : List ℕ) {s : Chain (Range ℕ) (Range ℕ)} (t u : Chain (Range ℕ) (Range ℕ)) {r : Option ℕ} → 0 < n → Yields Steps s ys t → r ≡ None → Steps t r u → Round n x s → length ys ≡ n
ended n x ys t u p y e g o = let z = YieldsList-end (round n x _ o) ys _ y _ _ e g in z.1 ∙ way_long n (home_of n x) (home_within n x p)

-- the first slot that was passed and holds no square
abbrev pub Spot : ℕ → Table → ℕ → ℕ → Option ℕ → Type 0
Spot n v h k (Some s) = (s < n) × ((v s).state < 2) × (away n h s < k)
Spot n v h k None = (u : ℕ) → u < n → away n h u < k → 2 ≤ (v u).state

-- the first k slots on the way of x were passed
pub record Passed (n : ℕ) (v : Table) (x : Node) (k : ℕ) (spot : Option ℕ) : Type 0 where
  pub used : (u : ℕ) → u < n → away n (home_of n x) u < k → 0 < (v u).state
  pub none : (u : ℕ) → u < n → away n (home_of n x) u < k → v u ≡ x → ⊥
  pub first : Spot n v (home_of n x) k spot

-- a slot is one of those passed before or the last
last : (n h k u i : ℕ) → h < n → u < n → i < n → away n h i ≡ k → away n h u < k + 1 → (away n h u < k) ⊎ (u ≡ i)
last n h k u i p q r e l =
    elim (dec_lt (away n h u) k) [
      | yes y ↦ inl y
      | no y ↦ inr (away_inj n h u i p q r (let z : away n h u ≡ k = omega arith in z ∙ sym e))
    ]

spot_more : (n : ℕ) (v : Table) (h k i : ℕ) (spot : Option ℕ) → h < n → i < n → away n h i ≡ k → 2 ≤ (v i).state → Spot n v h k spot → Spot n v h (k + 1) spot
spot_more n v h k i (Some s) p q e t o = (o.0, o.1, let z = o.2 in omega arith)
spot_more n v h k i None p q e t o = λ u l a. elim (last n h k u i p l q e a) [
  | inl b ↦ o u l b
  | inr b ↦ subst (λ (z : ℕ). 2 ≤ (v z).state) (sym b) t
]

spot_old : (n : ℕ) (v : Table) (h k s : ℕ) → Spot n v h k (Some s) → Spot n v h (k + 1) (Some s)
spot_old n v h k s o = (o.0, o.1, let z = o.2 in omega arith)

passed : (n : ℕ) (v : Table) (x : Node) (ys : List ℕ) (i : ℕ) (spot spot' : Option ℕ) → 0 < n → Comes n (home_of n x) (length ys) i → Passed n v x (length ys) spot →
    0 < (v i).state → (v i ≡ x → ⊥) → Spot n v (home_of n x) (length ys + 1) spot' → Passed n v x (length (ys ++ i ∷ [])) spot'
passed n v x ys i spot spot' some o p t ne sp =
    let k = length ys in let h = home_of n x in let hw = home_within n x some in
    subst (λ (m : ℕ). Passed n v x m spot') (sym (length_push ys i)) (record {
      used = λ u m a. elim (last n h k u i hw m o.0 o.1 a) [
        | inl b ↦ p.used u m b
        | inr b ↦ subst (λ (z : ℕ). 0 < (v z).state) (sym b) t
      ];
      none = λ u m a. elim (last n h k u i hw m o.0 o.1 a) [
        | inl b ↦ p.none u m b
        | inr b ↦ subst (λ (z : ℕ). v z ≡ x → ⊥) (sym b) ne
      ];
      first = sp;
    })

-- a square that is another one
pub passed_square : (n : ℕ) (v : Table) (x : Node) (ys : List ℕ) (i : ℕ) (spot : Option ℕ) → 0 < n → Comes n (home_of n x) (length ys) i → Passed n v x (length ys) spot →
    2 ≤ (v i).state → (v i ≡ x → ⊥) → Passed n v x (length (ys ++ i ∷ [])) spot
passed_square n v x ys i spot some o p t ne =
    passed n v x ys i spot spot some o p (omega arith) ne (spot_more n v (home_of n x) (length ys) i spot (home_within n x some) o.0 o.1 t p.first)

not_square : (n : ℕ) (v : Table) (x : Node) (i : ℕ) → 2 ≤ x.state → (v i).state < 2 → v i ≡ x → ⊥
not_square n v x i t f e = let z = ap (λ (y : Node). y.state) e in omega arith

-- a free slot
pub passed_free : (n : ℕ) (v : Table) (x : Node) (ys : List ℕ) (i : ℕ) (spot : Option ℕ) → 0 < n → 2 ≤ x.state → Comes n (home_of n x) (length ys) i → Passed n v x (length ys) spot →
    (v i).state ≡ 1 → Passed n v x (length (ys ++ i ∷ [])) (option_or spot (Some i))
passed_free n v x ys i (Some s) some t o p f =
    passed n v x ys i (Some s) (Some s) some o p (omega arith) (not_square n v x i t (omega arith)) (spot_old n v (home_of n x) (length ys) s p.first)
passed_free n v x ys i None some t o p f =
    passed n v x ys i None (Some i) some o p (omega arith) (not_square n v x i t (omega arith)) (o.0, omega arith, let z = o.1 in omega arith)

-- x stands nowhere if the search comes to an empty slot
absent : (n : ℕ) (v : Table) (x : Node) (k i : ℕ) (spot : Option ℕ) → Sound n v → 0 < n → 2 ≤ x.state → Comes n (home_of n x) k i → Passed n v x k spot → (v i).state ≡ 0 →
    (j : ℕ) → j < n → v j ≡ x → ⊥
absent n v x k i spot s some t o p f j m e =
    let h = home_of n x in let hw = home_within n x some in let st : (v j).state ≡ x.state = ap (λ (y : Node). y.state) e in
    elim (dec_lt (away n h j) k) [
      | yes y ↦ p.none j m y e
      | no y ↦ elim (ℕ_discrete (away n h j) k) [
        | yes z ↦ let q = away_inj n h j i hw m o.0 (z ∙ sym o.1) in let r = ap (λ (u : ℕ). (v u).state) q in omega arith
        | no z ↦
            let q : away n (home_of n (v j)) i < away n (home_of n (v j)) j =
            subst (λ (y : Node). away n (home_of n y) i < away n (home_of n y) j) (sym e) (let b : (away n h j ≡ k → ⊥) = z in far (away n h i) (away n h j) k o.1 y b) in
            let r = s.packed j i m o.0 (omega arith) q in
            omega arith
      ]
    ]
  where
    far : (a b k : ℕ) → a ≡ k → (b < k → ⊥) → (b ≡ k → ⊥) → a < b
    far a b k e f g = omega arith

-- the place for x when the search comes to an empty slot
pub fit_empty : (n : ℕ) (v : Table) (x : Node) (k i : ℕ) (spot : Option ℕ) → Sound n v → 0 < n → 2 ≤ x.state → Comes n (home_of n x) k i → Passed n v x k spot → (v i).state ≡ 0 →
    Fit n v x (unwrap_or spot i)
fit_empty n v x k i (Some s) so some t o p f = record {
  within = p.first.0;
  free = p.first.1;
  full = λ u m a. p.used u m (let z = p.first.2 in omega arith);
  none = absent n v x k i (Some s) so some t o p f;
}
fit_empty n v x k i None so some t o p f = record {
  within = o.0;
  free = omega arith;
  full = λ u m a. p.used u m (let z = o.1 in omega arith);
  none = absent n v x k i None so some t o p f;
}

-- all slots were passed
pub fit_end : (n : ℕ) (v : Table) (x : Node) (s : ℕ) → 0 < n → Passed n v x n (Some s) → Fit n v x s
fit_end n v x s some p = record {
  within = p.first.0;
  free = p.first.1;
  full = λ u m a. p.used u m (away_few n (home_of n x) u (home_within n x some) m);
  none = λ u m. p.none u m (away_few n (home_of n x) u (home_within n x some) m);
}

all_used : (v : Table) (k : ℕ) → ((u : ℕ) → u < k → 2 ≤ (v u).state) → used v k ≡ k
unfolding used
all_used v zero h = refl
all_used v (suc k) h = let p = all_used v k (λ u l. h u (omega arith)) in one (v k).state (used v k) k (h k (omega arith)) p
  where
    one : (s m k : ℕ) → 2 ≤ s → m ≡ k → m + cond (leb 2 s) 1 0 ≡ suc k
    one s m k t e = grind arith

pub used_end : (n : ℕ) (v : Table) (x : Node) → 0 < n → Passed n v x n None → used v n ≡ n
used_end n v x some p = all_used v n (λ u m. p.first u m (away_few n (home_of n x) u (home_within n x some) m))
