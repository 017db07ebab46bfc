-- The characters of a line, and its words: what stands before, between and after its spaces.
use Rattle.std.specs.Prelude.{ℕ, Bool, true, false, cond, ◌&&◌, List, [], ◌∷◌, None, Option, ◌==◌, nat_le}
use Rattle.std.specs.List.{list_all}

-- only printable characters of ASCII
abbrev pub is_line_text : List ℕ → Bool
is_line_text = list_all (λ c. nat_le 32 c && nat_le c 126)

abbrev pub Word : Type 0
Word = List ℕ

-- c in front of the first word
abbrev pub longer : ℕ → List Word → List Word
longer c [] = (c ∷ []) ∷ []
longer c (w ∷ ws) = (c ∷ w) ∷ ws

unfoldable pub words_of : List ℕ → List Word
words_of [] = [] ∷ []
words_of (c ∷ cs) = cond (c == 32) ([] ∷ words_of cs) (longer c (words_of cs))

-- what f reads in the next word, where there is one
abbrev pub first : {A : Type 0} → (Word → Option A) → List Word → Option A
first f [] = None
first f (w ∷ ws) = f w

abbrev pub rest : List Word → List Word
rest [] = []
rest (w ∷ ws) = ws

abbrev pub no_words_left : List Word → Bool
no_words_left [] = true
no_words_left (w ∷ ws) = false
