-- What a line asks for: its first word says which command it is, the words after it what the command is about.
use Rattle.std.specs.Prelude.{ℕ, ◌-◌, ◌^◌, cond, List, [], ◌∷◌, Some, None, Ok, Err, codes, Option, Result}
use Rattle.std.specs.Option.{ok_or}
use Rattle.std.specs.Str.{bytes_eq}
use Rattle.model.specs.declared.Refusal.{Refusal}
use Rattle.model.specs.declared.Refusal.TheVariants.{BadRule, BadForm}
use Rattle.model.specs.declared.Cell.{Cell}
use Rattle.model.specs.Cells.{cell_at}
use Rattle.rules.specs.declared.texts.RuleSets.{RuleSets}
use Rattle.rules.specs.Texts.{sets_of}
use Rattle.lines.specs.declared.Command.{Command}
use Rattle.lines.specs.declared.Command.TheVariants.{Rule, Put, Run, Cell as OneCell, Count, Row, Bounds, Period}
use Rattle.lines.specs.Numerals.{into, up_to, place_of, flag_of}
use Rattle.lines.specs.Splits.{Word, is_line_text, words_of, first, rest}

-- the next word says x, and k goes on with the words after it
abbrev pub next : {A : Type 0} → (Word → Option A) → List Word → (A → List Word → Option Command) → Option Command
next f ws k = into (first f ws) (λ x. k x (rest ws))

-- the next two words as a cell
abbrev pub cell_first : List Word → Option Cell
cell_first ws = into (first place_of ws) (λ x. into (first place_of (rest ws)) (λ y. Some (cell_at x y)))

abbrev pub cell_next : List Word → (Cell → List Word → Option Command) → Option Command
cell_next ws k = into (cell_first ws) (λ c. k c (rest (rest ws)))

-- and no word is left
abbrev pub last : Command → List Word → Option Command
last c [] = Some c
last c (w ∷ ws) = None

abbrev pub put_of : List Word → Option Command
put_of ws = cell_next ws (λ c us. next flag_of us (λ lives. last (Put c lives)))

abbrev pub run_of : List Word → Option Command
run_of ws = next (up_to (2 ^ 64 - 1)) ws (λ n. last (Run n))

abbrev pub cell_of : List Word → Option Command
cell_of ws = cell_next ws (λ c. last (OneCell c))

abbrev pub row_of : List Word → Option Command
row_of ws = cell_next ws (λ c us. next (up_to (2 ^ 20)) us (λ n. last (Row c n)))

abbrev pub period_of : List Word → Option Command
period_of ws = next (up_to (2 ^ 16 - 1)) ws (λ n. last (Period n))

-- every command but `rule`
abbrev pub plain_of : Word → List Word → Option Command
plain_of verb ws =
    cond (bytes_eq verb (codes "put")) (put_of ws)
    (cond (bytes_eq verb (codes "run")) (run_of ws)
    (cond (bytes_eq verb (codes "cell")) (cell_of ws)
    (cond (bytes_eq verb (codes "count")) (last Count ws)
    (cond (bytes_eq verb (codes "row")) (row_of ws)
    (cond (bytes_eq verb (codes "box")) (last Bounds ws)
    (cond (bytes_eq verb (codes "period")) (period_of ws) None))))))

abbrev pub named : Option RuleSets → Result Command Refusal
named None = Err BadRule
named (Some r) = Ok (Rule r)

-- one word that is not empty
abbrev pub rule_words : List Word → Result Command Refusal
rule_words [] = Err BadForm
rule_words ([] ∷ ws) = Err BadForm
rule_words ((c ∷ cs) ∷ []) = named (sets_of (c ∷ cs))
rule_words ((c ∷ cs) ∷ (w ∷ ws)) = Err BadForm

abbrev pub spoken : List Word → Result Command Refusal
spoken [] = Err BadForm
spoken (verb ∷ ws) = cond (bytes_eq verb (codes "rule")) (rule_words ws) (ok_or (plain_of verb ws) BadForm)

abbrev pub command_of : List ℕ → Result Command Refusal
command_of line = cond (is_line_text line) (spoken (words_of line)) (Err BadForm)
