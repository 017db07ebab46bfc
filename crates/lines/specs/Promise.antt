-- What holds of the reading of lines.
use Rattle.std.specs.Prelude.{◌≡◌, ℕ, ◌^◌, ◌<◌, ◌≤◌, true, false, List, [], ◌∷◌, ◌++◌, ℤ, pos, negsuc, Some, Ok, Err, codes, decimal, ◌≢◌}
use Rattle.std.specs.Int.Signed.{mag}
use Rattle.std.specs.Fmt.{signed_decimal}
use Rattle.std.specs.List.{AllByRecursion}
use Rattle.model.specs.declared.Refusal.{Refusal}
use Rattle.model.specs.declared.Refusal.TheVariants.{BadRule, BadForm}
use Rattle.model.specs.declared.Cell.{Cell}
use Rattle.model.specs.Cells.{cell_at}
use Rattle.lines.specs.declared.Command.{Command}
use Rattle.lines.specs.declared.Command.TheVariants.{Rule, Put, Run, Cell as OneCell, Count, Row, Bounds, Period}
use Rattle.lines.specs.Numerals.{natural_of, place_of}
use Rattle.lines.specs.Splits.{Word, words_of}
use Rattle.lines.specs.Commands.{command_of}

-- words with one space between two of them
unfoldable pub spaced : List Word → List ℕ
spaced [] = []
spaced (w ∷ []) = w
spaced (w ∷ (v ∷ ws)) = w ++ (32 ∷ spaced (v ∷ ws))

-- the words of a line make up the line, and none of them holds a space
abbrev pub WordsRight : Type 0
WordsRight = (line : List ℕ) → (spaced (words_of line) ≡ line) × AllByRecursion (λ (w : Word). AllByRecursion (λ (c : ℕ). c ≢ 32) w) (words_of line)

-- a number is read from the digits that write it
abbrev pub NumbersRight : Type 0
NumbersRight = ((n : ℕ) → n < 2 ^ 64 → natural_of (decimal n) ≡ Some n) × ((z : ℤ) → mag z < 2 ^ 63 → place_of (signed_decimal z) ≡ Some z)

-- no row that is asked for is longer than this
abbrev pub RowsShort : Type 0
RowsShort = (line : List ℕ) (c : Cell) (n : ℕ) → command_of line ≡ Ok (Row c n) → n ≤ 2 ^ 20

abbrev pub says : List ℕ → Command → Type 0
says line c = command_of line ≡ Ok c

abbrev pub refused_as : List ℕ → Refusal → Type 0
refused_as line e = command_of line ≡ Err e

abbrev pub Examples : Type 0
Examples =
    says (codes "rule b3s23") (Rule (record { born = 8; stays = 12 })) × says (codes "rule b0s") (Rule (record { born = 1; stays = 0 })) × says (codes "rule bs") (Rule (record { born = 0; stays = 0 }))
    × says (codes "put -3 007 1") (Put (cell_at (negsuc 2) (pos 7)) true) × says (codes "put -0 0 0") (Put (cell_at (pos 0) (pos 0)) false)
    × says (codes "run 18446744073709551615") (Run 18446744073709551615)
    × says (codes "cell -9223372036854775808 9223372036854775807") (OneCell (cell_at (negsuc 9223372036854775807) (pos 9223372036854775807)))
    × says (codes "count") Count × says (codes "row 1 2 1048576") (Row (cell_at (pos 1) (pos 2)) 1048576)
    × says (codes "box") Bounds × says (codes "period 65535") (Period 65535)

abbrev pub Refusals : Type 0
Refusals =
    refused_as (codes "rule b3s2x") BadRule × refused_as (codes "rule b32s23") BadRule × refused_as (codes "rule b3s23 ") BadForm
    × refused_as (codes "rule b3s23" ++ (9 ∷ [])) BadForm
    × refused_as (codes "rule ") BadForm × refused_as (codes "rule") BadForm × refused_as [] BadForm × refused_as (codes " count") BadForm
    × refused_as (codes "Count") BadForm × refused_as (codes "cell 1  2") BadForm × refused_as (codes "cell - 2") BadForm
    × refused_as (codes "cell +1 2") BadForm × refused_as (codes "cell 9223372036854775808 0") BadForm
    × refused_as (codes "put 1 2 01") BadForm × refused_as (codes "run 18446744073709551616") BadForm × refused_as (codes "run -1") BadForm
    × refused_as (codes "row 1 2 1048577") BadForm × refused_as (codes "period 65536") BadForm
