-- What a line does to the plane, and what is answered to it: w is the plane before, w' the one after.
use Rattle.std.specs.Prelude.{◌≡◌, ℕ, ◌+◌, ◌^◌, ◌≤◌, cond, List, length, take, Ok, Err, codes, decimal, Option, Result}
use Rattle.model.specs.declared.Period.{Period as Return}
use Rattle.model.specs.declared.Refusal.{Refusal}
use Rattle.model.specs.Cells.{lives, bounds_of}
use Rattle.model.specs.World.{World, bits, capped}
use Rattle.model.specs.Answers.{Ruled, Put as HasPut, Ran, Recurs}
use Rattle.lines.specs.declared.Command.{Command}
use Rattle.lines.specs.declared.Command.TheVariants.{Rule, Put, Run, Cell as OneCell, Count, Row, Bounds, Period}
use Rattle.lines.specs.Commands.{command_of}
use Rattle.commands.specs.Texts.{refused, outcome, box_text, period_text, drawn}

abbrev pub Does : Command → World → List ℕ → World → Type 0
Does (Rule sets) w bytes w' = (r : Result Unit Refusal) × Ruled sets.born sets.stays w r w' × (bytes ≡ outcome r)
Does (Put c b) w bytes w' = (r : Result Unit Refusal) × HasPut c.x c.y b w r w' × (bytes ≡ outcome r)
Does (Run n) w bytes w' = (r : Result Unit Refusal) × Ran n w r w' × (bytes ≡ outcome r)
Does (OneCell c) w bytes w' = (bytes ≡ cond (lives c.x c.y w.cells) (codes "1") (codes "0")) × (w' ≡ w)
Does Count w bytes w' = (bytes ≡ decimal (capped (length w.cells))) × (w' ≡ w)
Does (Row c n) w bytes w' = (bytes ≡ drawn (bits c.x c.y n w.cells)) × (w' ≡ w)
Does Bounds w bytes w' = (bytes ≡ box_text (bounds_of w.cells)) × (w' ≡ w)
Does (Period bound) w bytes w' = (r : Result (Option Return) Refusal) × Recurs bound w r × (bytes ≡ period_text r) × (w' ≡ w)

-- what is no command is refused, and nothing is done
abbrev pub Replied : Result Command Refusal → World → List ℕ → World → Type 0
Replied (Ok c) w bytes w' = Does c w bytes w'
Replied (Err e) w bytes w' = (bytes ≡ refused e) × (w' ≡ w)

abbrev pub Said : List ℕ → World → List ℕ → World → Type 0
Said line = Replied (command_of line)

-- as long as an answer can get: a row of 2^20 cells, and more than any other
abbrev pub answer_bytes : ℕ
answer_bytes = 2 ^ 20 + 128

-- the command is done, and its answer is the first n bytes of the buffer
pub record Answered (c : Command) (w : World) (out : List ℕ) (n : ℕ) (w' : World) : Type 0 where
  pub within : n ≤ length out
  pub does : Does c w (take n out) w'
