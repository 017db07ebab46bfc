-- What Rust's own reading of a number gives is what the digits say, up to a bound.
use Rattle.std.proofs.Common.{◌≡◌, ◌≢◌, ℕ, ◌+◌, ◌-◌, ◌*◌, ◌^◌, ◌<◌, ◌≤◌, ◌&&◌, rules, Bool, true, false, cond, eqb, leb, List, [], ◌∷◌, length, get_or, drop, ℤ, pos, neg_ℤ, Some, None, Ok, Err, Option, Result, sym, refl, ap, ◌∙◌, arith, w64}
use Rattle.std.proofs.lemmas.Bool.{le-leb, leb-true, eqb-true, eqb-false, eq-eqb, ne_eqb}
use Rattle.std.proofs.lemmas.Str.Parse.{IsNumeralModel, numerals_by_fold, tells_all_ascii_digits, parse_plain, parse_signed_plain, parse_signed_minus}
use Rattle.std.specs.Char.{is_ascii_digit}
use Rattle.std.specs.Option.{option_map}
use Rattle.std.specs.Result.{result_ok, OkIff}
use Rattle.std.specs.Str.{all_ascii_digits}
use Rattle.std.specs.Str.Parse.{ParsesUnsigned, ParsesSigned}
use Rattle.lines.specs.Numerals.{into, read_on, natural_of, at_most, up_to, place_of, IsParsed}

-- what digits are worth, behind n
pub value_on : ℕ → List ℕ → ℕ
value_on n [] = n
value_on n (c ∷ cs) = value_on (n * 10 + (c - 48)) cs

abbrev pub Digits : List ℕ → Type 0
Digits ds = all_ascii_digits ds ≡ true

pub own : IsNumeralModel Digits (value_on 0)
unfolding value_on
own = numerals_by_fold Digits tells_all_ascii_digits value_on (search rules)

pub read_digits : (n : ℕ) (cs : List ℕ) → read_on n cs ≡ cond (all_ascii_digits cs) (Some (value_on n cs)) None
unfolding read_on value_on
read_digits n [] = refl
read_digits n (c ∷ cs) = go (is_ascii_digit c) (read_digits (n * 10 + (c - 48)) cs)
  where
    go : (t : Bool) → read_on (n * 10 + (c - 48)) cs ≡ cond (all_ascii_digits cs) (Some (value_on (n * 10 + (c - 48)) cs)) None →
        into (cond t (Some (n * 10 + (c - 48))) None) (λ m. read_on m cs) ≡ cond (t && all_ascii_digits cs) (Some (value_on (n * 10 + (c - 48)) cs)) None
    go true e = e
    go false e = refl

-- r is the number of the digits, if there are some and they are worth at most m
read_up_to : {A E : Type 0} (f : ℕ → A) (m : ℕ) (bs : List ℕ) (r : Result A E) →
    OkIff r (Digits bs × (0 < length bs) × (value_on 0 bs ≤ m)) (f (value_on 0 bs)) → result_ok r ≡ option_map f (at_most m (natural_of bs))
read_up_to f m [] (Ok x) h = absurd (omega (arith, h.0.1))
read_up_to f m [] (Err e) h = refl
read_up_to f m (c ∷ cs) (Ok x) h = rw (read_digits 0 (c ∷ cs), h.0.0, le-leb _ m h.0.2) (ap Some h.1)
read_up_to f m (c ∷ cs) (Err e) h = rw (read_digits 0 (c ∷ cs)) (go (all_ascii_digits (c ∷ cs)) (leb (value_on 0 (c ∷ cs)) m) refl refl)
  where
    go : (t u : Bool) → all_ascii_digits (c ∷ cs) ≡ t → leb (value_on 0 (c ∷ cs)) m ≡ u →
        None ≡ option_map f (at_most m (cond t (Some (value_on 0 (c ∷ cs))) None))
    go false u d l = refl
    go true true d l = absurd (h (d, omega arith, leb-true _ m l))
    go true false d l = rw l refl

no_plus : (bs : List ℕ) → get_or bs 0 0 ≡ 43 → natural_of bs ≡ None
unfolding read_on
no_plus [] e = refl
no_plus (c ∷ cs) e = rw e refl

-- a word with no byte has no `+` in front
pub no_first : (bs : List ℕ) → length bs < 1 → get_or bs 0 0 ≢ 43
no_first [] h e = omega (arith, e)
no_first (c ∷ cs) h e = omega (arith, h)

map_same : (o : Option ℕ) → option_map (λ n. n) o ≡ o
map_same None = refl
map_same (Some n) = refl

weaker : {A E : Type 0} {P Q : Type 0} (r : Result A E) (x : A) → (P → Q) → (Q → P) → OkIff r P x → OkIff r Q x
weaker (Ok y) x f g h = (f h.0, h.1)
weaker (Err e) x f g h = λ q. h (g q)

pub read_natural : {E : Type 0} (bs : List ℕ) (gives : List ℕ → Result ℕ E → Type 0) (o : Option ℕ) →
    ((r : Result ℕ E) → gives bs r → ParsesUnsigned 64 10 bs r) → IsParsed gives bs o → o ≡ up_to (2 ^ 64 - 1) bs
read_natural {E} bs gives o parses p = go (eqb (get_or bs 0 0) 43) refl
  where
    go : (t : Bool) → eqb (get_or bs 0 0) 43 ≡ t → o ≡ up_to (2 ^ 64 - 1) bs
    go true e = let same = eqb-true _ 43 e in p.plus same ∙ sym (ap (at_most (2 ^ 64 - 1)) (no_plus bs same))
    go false e =
        let other = eqb-false _ 43 e in
        let q = p.other other in
        q.2
        ∙ read_up_to (λ n. n) (2 ^ 64 - 1) bs q.0
        (weaker q.0 (value_on 0 bs) (λ h. (h.0, h.1, omega arith)) (λ h. (h.0, h.1, omega arith)) (parse_plain own 64 bs q.0 (parses q.0 q.1) other))
        ∙ map_same (at_most (2 ^ 64 - 1) (natural_of bs))

pub place_plain : (bs : List ℕ) → get_or bs 0 0 ≢ 45 → place_of bs ≡ option_map pos (at_most (2 ^ 63 - 1) (natural_of bs))
place_plain [] h = refl
place_plain (c ∷ cs) h = rw (ne_eqb c 45 h) refl

place_minus : (bs : List ℕ) → get_or bs 0 0 ≡ 45 → place_of bs ≡ option_map (λ n. neg_ℤ (pos n)) (at_most (2 ^ 63) (natural_of (drop 1 bs)))
place_minus [] h = absurd (omega (arith, h))
place_minus (c ∷ cs) h = rw (eq-eqb c 45 h) refl

pub read_place : {E : Type 0} (bs : List ℕ) (gives : List ℕ → Result ℤ E → Type 0) (o : Option ℤ) →
    ((r : Result ℤ E) → gives bs r → ParsesSigned w64 10 bs r) → IsParsed gives bs o → o ≡ place_of bs
read_place {E} bs gives o parses p = go (eqb (get_or bs 0 0) 43) (eqb (get_or bs 0 0) 45) refl refl
  where
    go : (t u : Bool) → eqb (get_or bs 0 0) 43 ≡ t → eqb (get_or bs 0 0) 45 ≡ u → o ≡ place_of bs
    go true u e f =
        let same = eqb-true _ 43 e in
        p.plus same ∙ sym (place_plain bs (λ d. omega (arith, same, d)) ∙ ap (λ (n : Option ℕ). option_map pos (at_most (2 ^ 63 - 1) n)) (no_plus bs same))
    go false true e f =
        let q = p.other (eqb-false _ 43 e) in
        let same = eqb-true _ 45 f in
        q.2 ∙ read_up_to (λ n. neg_ℤ (pos n)) (2 ^ 63) (drop 1 bs) q.0 (parse_signed_minus own w64 bs q.0 (parses q.0 q.1) same) ∙ sym (place_minus bs same)
    go false false e f =
        let other = eqb-false _ 43 e in
        let q = p.other other in
        let plain = eqb-false _ 45 f in
        q.2
        ∙ read_up_to pos (2 ^ 63 - 1) bs q.0
        (weaker q.0 (pos (value_on 0 bs)) (λ h. (h.0, h.1, omega arith)) (λ h. (h.0, h.1, omega arith)) (parse_signed_plain own w64 bs q.0 (parses q.0 q.1) other plain))
        ∙ sym (place_plain bs plain)
