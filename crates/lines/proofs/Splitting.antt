-- A line is its first word, and the words after the space that ends it.
use Rattle.std.proofs.Common.{◌≡◌, ◌≢◌, get_or, Option, Some, None, sym, is_some, ℕ, suc, ◌+◌, ◌<◌, Bool, true, false, cond, not, eqb, List, [], ◌∷◌, length, take, drop, refl, ap, arith}
use Rattle.std.specs.List.{position_or_len, before_first, after_first}
use Rattle.std.proofs.lemmas.Bool.{true≢false, eq-eqb, ne_eqb}
use Rattle.std.proofs.lemmas.List.Sums.{position_or_len_is}
use Rattle.std.specs.Option.{option_map_or}
use Rattle.lines.specs.declared.words.Words.{Words}
use Rattle.lines.specs.Left.{left}
use denote.Ref.{Bor}
use Rattle.lines.specs.Splits.{Word, longer, words_of, no_words_left}

abbrev is_space : ℕ → Bool
is_space b = eqb b 32

words_cut : (bs : List ℕ) → position_or_len is_space bs < length bs → words_of bs ≡ before_first is_space bs ∷ words_of (after_first is_space bs)
unfolding words_of
words_cut [] h = absurd (omega (arith, h))
words_cut (c ∷ cs) h = go (eqb c 32) (words_cut cs) h
  where
    n : ℕ
    n = position_or_len is_space cs

    go : (t : Bool) → (n < length cs → words_of cs ≡ take n cs ∷ words_of (drop (n + 1) cs)) → cond (not t) (1 + n) 0 < length (c ∷ cs) →
        cond t ([] ∷ words_of cs) (longer c (words_of cs)) ≡ take (cond (not t) (1 + n) 0) (c ∷ cs) ∷ words_of (drop (cond (not t) (1 + n) 0 + 1) (c ∷ cs))
    go true i l = refl
    go false i l =
        let one : 1 + n ≡ suc n = omega arith in
        let two : suc n + 1 ≡ suc (n + 1) = omega arith in
        rw (one, two) (ap (longer c) (i (omega arith)))

words_whole : (bs : List ℕ) → position_or_len is_space bs ≡ length bs → words_of bs ≡ bs ∷ []
unfolding words_of
words_whole [] h = refl
words_whole (c ∷ cs) h = go (eqb c 32) (words_whole cs) h
  where
    n : ℕ
    n = position_or_len is_space cs

    go : (t : Bool) → (n ≡ length cs → words_of cs ≡ cs ∷ []) → cond (not t) (1 + n) 0 ≡ length (c ∷ cs) →
        cond t ([] ∷ words_of cs) (longer c (words_of cs)) ≡ (c ∷ cs) ∷ []
    go true i l = absurd (omega (arith, l))
    go false i l = ap (longer c) (i (omega arith))

-- the first word ends at the first space
pub words_at : (bs : List ℕ) (i : ℕ) → i < length bs → get_or bs i 0 ≡ 32 → ((k : ℕ) → k < i → get_or bs k 0 ≢ 32) →
    words_of bs ≡ take i bs ∷ words_of (drop (i + 1) bs)
words_at bs i inside here before =
    let found : position_or_len is_space bs ≡ i = position_or_len_is is_space bs i 0 (omega arith) (λ k l. ne_eqb _ 32 (before k l)) (λ l. eq-eqb _ 32 here) in
    rw found at (words_cut bs (omega (arith, found, inside)))

-- with no space there is one word
pub words_none : (bs : List ℕ) → ((k : ℕ) → k < length bs → get_or bs k 0 ≢ 32) → words_of bs ≡ bs ∷ []
words_none bs before =
    words_whole bs (position_or_len_is is_space bs (length bs) 0 (omega arith) (λ k l. ne_eqb _ 32 (before k l)) (λ l. absurd (omega (arith, l))))

some_longer : (c : ℕ) (ws : List Word) → no_words_left (longer c ws) ≡ false
some_longer c [] = refl
some_longer c (w ∷ ws) = refl

-- no line has no words
pub words_some : (bs : List ℕ) → no_words_left (words_of bs) ≡ false
unfolding words_of
words_some [] = refl
words_some (c ∷ cs) = go (eqb c 32)
  where
    go : (t : Bool) → no_words_left (cond t ([] ∷ words_of cs) (longer c (words_of cs))) ≡ false
    go true = refl
    go false = some_longer c (words_of cs)

-- no word is left where nothing of the line is
pub done_is : (w : Words) (b : Bool) → is_some w.rest ≡ not b → b ≡ no_words_left (left w)
done_is w b h = go w.rest b h
  where
    go : (o : Option (Bor (List ℕ))) (t : Bool) → is_some o ≡ not t → t ≡ no_words_left (option_map_or (λ text. words_of text.now) o [])
    go None true h = refl
    go None false h = absurd (true≢false (sym h))
    go (Some text) true h = absurd (true≢false h)
    go (Some text) false h = sym (words_some text.now)
