-- The proofs of what holds of the reading of lines.
use Rattle.std.proofs.Common.{◌≡◌, ◌≢◌, ℕ, suc, ◌-◌, ◌^◌, ◌<◌, Bool, true, false, cond, eqb, List, [], ◌∷◌, length, get_or, ℤ, pos, negsuc, Some, decimal, sym, refl, ap, subst, arith}
use lib.Signed.{mag}
use Rattle.std.proofs.lemmas.Bool.{le-leb, eqb-true, eqb-false, true≢false}
use Rattle.std.proofs.lemmas.Fmt.{decimal_nonempty, digits_decimal, digits_value-decimal}
use Rattle.std.proofs.lemmas.Str.Parse.{not_in_digits}
use Rattle.std.specs.Fmt.{signed_decimal}
use Rattle.std.specs.List.{AllByRecursion}
use Rattle.rules.specs.Texts.{reads}
use Rattle.lines.specs.Numerals.{read_on, natural_of, place_of}
use Rattle.lines.specs.Splits.{Word, longer, words_of, no_words_left}
use Rattle.lines.specs.Promise.{spaced, WordsRight, NumbersRight, Examples, Refusals}
use Rattle.lines.proofs.Reading.{Digits, own, value_on, read_digits, place_plain}
use Rattle.lines.proofs.Splitting.{words_some}

abbrev NoSpace : Word → Type 0
NoSpace w = AllByRecursion (λ (c : ℕ). c ≡ 32 → ⊥) w

-- what is kept as a line grows in front
record Split (line : List ℕ) (ws : List Word) : Type 0 where
  pub back : spaced ws ≡ line
  pub free : AllByRecursion NoSpace ws

space_first : (line : List ℕ) (ws : List Word) → no_words_left ws ≡ false → Split line ws → Split (32 ∷ line) ([] ∷ ws)
unfolding spaced
space_first line [] s h = absurd (true≢false s)
space_first line (w ∷ ws) s h = record { back = ap (λ (l : List ℕ). 32 ∷ l) h.back; free = (tt, h.free) }

letter_first : (c : ℕ) (line : List ℕ) (ws : List Word) → (c ≡ 32 → ⊥) → no_words_left ws ≡ false → Split line ws → Split (c ∷ line) (longer c ws)
unfolding spaced
letter_first c line [] n s h = absurd (true≢false s)
letter_first c line (w ∷ []) n s h = record { back = ap (λ (l : List ℕ). c ∷ l) h.back; free = ((n, h.free.0), tt) }
letter_first c line (w ∷ (v ∷ ws)) n s h = record { back = ap (λ (l : List ℕ). c ∷ l) h.back; free = ((n, h.free.0), h.free.1) }

split_of : (line : List ℕ) → Split line (words_of line)
unfolding words_of spaced
split_of [] = record { back = refl; free = (tt, tt) }
split_of (c ∷ cs) = go (eqb c 32) refl (split_of cs)
  where
    go : (t : Bool) → eqb c 32 ≡ t → Split cs (words_of cs) → Split (c ∷ cs) (cond t ([] ∷ words_of cs) (longer c (words_of cs)))
    go true e h = subst (λ (b : ℕ). Split (b ∷ cs) ([] ∷ words_of cs)) (sym (eqb-true c 32 e)) (space_first cs (words_of cs) (words_some cs) h)
    go false e h = letter_first c cs (words_of cs) (eqb-false c 32 e) (words_some cs) h

pub words_right : WordsRight
words_right line = ((split_of line).back, (split_of line).free)

natural_is : (n : ℕ) (ds : List ℕ) → 0 < length ds → Digits ds → value_on 0 ds ≡ n → natural_of ds ≡ Some n
natural_is n [] some d v = absurd (omega (arith, some))
natural_is n (c ∷ cs) some d v = rw (read_digits 0 (c ∷ cs), d) (ap Some v)

decimal_is : (n : ℕ) → n < 2 ^ 64 → natural_of (decimal n) ≡ Some n
decimal_is n h = natural_is n (decimal n) (decimal_nonempty n h) (digits_decimal own n h) (digits_value-decimal own n h)

-- digits have no `-` in front
no_minus : (n : ℕ) → n < 2 ^ 64 → get_or (decimal n) 0 0 ≢ 45
no_minus n h = not_in_digits own (decimal n) 45 (digits_decimal own n h) (λ r. omega (arith, r)) 0 (decimal_nonempty n h)

place_is : (z : ℤ) → mag z < 2 ^ 63 → place_of (signed_decimal z) ≡ Some z
place_is (pos n) h =
    let fits : n < 2 ^ 64 = omega arith in
    rw (place_plain (decimal n) (no_minus n fits), decimal_is n fits, le-leb n (2 ^ 63 - 1) (omega arith)) refl
place_is (negsuc n) h = rw (decimal_is (suc n) (omega arith), le-leb (suc n) (2 ^ 63) (omega arith)) refl

pub numbers_right : NumbersRight
numbers_right = (decimal_is, place_is)

pub examples : Examples
unfolding words_of read_on reads
examples = (refl, refl, refl, refl, refl, refl, refl, refl, refl, refl, refl)

pub refusals : Refusals
unfolding words_of read_on reads
refusals = (refl, refl, refl, refl, refl, refl, refl, refl, refl, refl, refl, refl, refl, refl, refl, refl, refl, refl)
