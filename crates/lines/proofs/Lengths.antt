-- No command asks for a row that is too long.
use Rattle.std.proofs.Common.{◌≡◌, ℕ, ◌-◌, ◌^◌, ◌≤◌, Bool, true, false, cond, leb, List, [], ◌∷◌, Some, None, Ok, Err, codes, Option, Result, refl, subst}
use Rattle.std.proofs.lemmas.Bool.{leb-true}
use Rattle.std.specs.Option.{ok_or}
use Rattle.std.specs.Str.{bytes_eq}
use Rattle.model.specs.declared.Refusal.{Refusal}
use Rattle.model.specs.declared.Refusal.TheVariants.{BadForm}
use Rattle.rules.specs.declared.texts.RuleSets.{RuleSets}
use Rattle.model.specs.declared.Cell.{Cell}
use Rattle.rules.specs.Texts.{sets_of}
use Rattle.lines.specs.declared.Command.{Command}
use Rattle.lines.specs.declared.Command.TheVariants.{Rule, Put, Run, Cell as OneCell, Count, Row, Bounds, Period}
use Rattle.lines.specs.Numerals.{into, natural_of, at_most, up_to, flag_of}
use Rattle.lines.specs.Splits.{Word, is_line_text, words_of, first, rest}
use Rattle.lines.specs.Commands.{next, cell_first, cell_next, last, put_of, run_of, cell_of, row_of, period_of, plain_of, named, rule_words, spoken}
use Rattle.lines.specs.Promise.{RowsShort}

abbrev Short : Command → Type 0
Short (Rule sets) = Unit
Short (Put c lives) = Unit
Short (Run n) = Unit
Short (OneCell c) = Unit
Short Count = Unit
Short (Row c n) = n ≤ 2 ^ 20
Short Bounds = Unit
Short (Period n) = Unit

abbrev Fits : Option Command → Type 0
Fits None = Unit
Fits (Some c) = Short c

abbrev Right : Result Command Refusal → Type 0
Right (Ok c) = Short c
Right (Err e) = Unit

last_fits : (c : Command) (ws : List Word) → Short c → Fits (last c ws)
last_fits c [] h = h
last_fits c (w ∷ ws) h = tt

into_fits : {A : Type 0} (o : Option A) (k : A → Option Command) → ((x : A) → Fits (k x)) → Fits (into o k)
into_fits None k h = tt
into_fits (Some x) k h = h x

next_fits : {A : Type 0} (f : Word → Option A) (ws : List Word) (k : A → List Word → Option Command) →
    ((x : A) (us : List Word) → Fits (k x us)) → Fits (next f ws k)
next_fits f ws k h = into_fits (first f ws) (λ x. k x (rest ws)) (λ x. h x (rest ws))

cell_fits : (ws : List Word) (k : Cell → List Word → Option Command) → ((c : Cell) (us : List Word) → Fits (k c us)) → Fits (cell_next ws k)
cell_fits ws k h = into_fits (cell_first ws) (λ c. k c (rest (rest ws))) (λ c. h c (rest (rest ws)))

row_fits : (c : Cell) (ws : List Word) → Fits (next (up_to (2 ^ 20)) ws (λ n. last (Row c n)))
row_fits c [] = tt
row_fits c (w ∷ ws) = go (natural_of w)
  where
    within : (n : ℕ) (t : Bool) → leb n (2 ^ 20) ≡ t → Fits (into (cond t (Some n) None) (λ m. last (Row c m) ws))
    within n true e = last_fits (Row c n) ws (leb-true n (2 ^ 20) e)
    within n false e = tt

    go : (o : Option ℕ) → Fits (into (at_most (2 ^ 20) o) (λ m. last (Row c m) ws))
    go None = tt
    go (Some n) = within n (leb n (2 ^ 20)) refl

plain_fits : (verb : Word) (ws : List Word) → Fits (plain_of verb ws)
plain_fits verb ws =
    go (bytes_eq verb (codes "put")) (bytes_eq verb (codes "run")) (bytes_eq verb (codes "cell")) (bytes_eq verb (codes "count"))
    (bytes_eq verb (codes "row")) (bytes_eq verb (codes "box")) (bytes_eq verb (codes "period"))
  where
    go : (a b c d e f g : Bool) →
        Fits
        (cond a (put_of ws) (cond b (run_of ws) (cond c (cell_of ws) (cond d (last Count ws) (cond e (row_of ws) (cond f (last Bounds ws) (cond g (period_of ws) None)))))))
    go true b c d e f g =
        cell_fits ws (λ c us. next flag_of us (λ b. last (Put c b))) (λ c us. next_fits flag_of us (λ b. last (Put c b)) (λ b vs. last_fits (Put c b) vs tt))
    go false true c d e f g = next_fits (up_to (2 ^ 64 - 1)) ws (λ n. last (Run n)) (λ n us. last_fits (Run n) us tt)
    go false false true d e f g = cell_fits ws (λ c. last (OneCell c)) (λ c us. last_fits (OneCell c) us tt)
    go false false false true e f g = last_fits Count ws tt
    go false false false false true f g = cell_fits ws (λ c us. next (up_to (2 ^ 20)) us (λ n. last (Row c n))) row_fits
    go false false false false false true g = last_fits Bounds ws tt
    go false false false false false false true = next_fits (up_to (2 ^ 16 - 1)) ws (λ n. last (Period n)) (λ n us. last_fits (Period n) us tt)
    go false false false false false false false = tt

named_right : (o : Option RuleSets) → Right (named o)
named_right None = tt
named_right (Some r) = tt

rule_right : (ws : List Word) → Right (rule_words ws)
rule_right [] = tt
rule_right ([] ∷ ws) = tt
rule_right ((c ∷ cs) ∷ []) = named_right (sets_of (c ∷ cs))
rule_right ((c ∷ cs) ∷ (w ∷ ws)) = tt

or_right : (o : Option Command) → Fits o → Right (ok_or o BadForm)
or_right None h = tt
or_right (Some c) h = h

cond_right : (b : Bool) (r q : Result Command Refusal) → Right r → Right q → Right (cond b r q)
cond_right true r q h k = h
cond_right false r q h k = k

spoken_right : (ws : List Word) → Right (spoken ws)
spoken_right [] = tt
spoken_right (verb ∷ ws) =
    cond_right (bytes_eq verb (codes "rule")) (rule_words ws) (ok_or (plain_of verb ws) BadForm) (rule_right ws) (or_right (plain_of verb ws) (plain_fits verb ws))

pub rows_short : RowsShort
rows_short line c n e = subst Right e (cond_right (is_line_text line) (spoken (words_of line)) (Err BadForm) (spoken_right (words_of line)) tt)
