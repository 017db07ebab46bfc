-- A rule and a square of side 16 as text, and what is answered to it.
use Rattle.std.specs.Prelude.{◌≡◌, ℕ, ◌+◌, ◌*◌, ◌/◌, ◌%◌, ◌<◌, ◌≤◌, Bool, cond, not, ◌||◌, T, List, [], ◌∷◌, length, pos, Ok, Err, codes, Result, ◌==◌, slice_index}
use Rattle.model.specs.Planes.{Plane}
use Rattle.model.specs.Rules.{Rule as Law, rule_of, good_rule}
use Rattle.rules.specs.Texts.{rule_text}
use Rattle.leaf.specs.Words.{cell_in}
use Rattle.leaf.specs.Shown.{after}
use Rattle.squaretext.specs.declared.Fault.{Fault}
use Rattle.squaretext.specs.declared.Fault.TheVariants.{NoRule, BadRule, BadSquare}

-- the first line, and what follows it
unfoldable pub first_line : List ℕ → List ℕ
first_line [] = []
first_line (b ∷ bs) = cond (b == 10) [] (b ∷ first_line bs)

unfoldable pub next_lines : List ℕ → List ℕ
next_lines [] = []
next_lines (b ∷ bs) = cond (b == 10) bs (next_lines bs)

-- Sixteen lines of sixteen bytes `.` and `o`. The last may lack its end.
abbrev pub suits_place : ℕ → ℕ → Bool
suits_place k b = cond (k % 17 == 16) (b == 10) (b == 46 || b == 111)

pub record SquareText (bs : List ℕ) : Type 0 where
  pub long : 271 ≤ length bs
  pub short : length bs ≤ 272
  pub each : (k : ℕ) → k < length bs → T (suits_place k (slice_index bs k))

abbrev pub drawn_at : List ℕ → ℕ → ℕ → Bool
drawn_at bs x y = slice_index bs (17 * y + x) == 111

-- the rule that a line names
pub record Names (line : List ℕ) (b s : ℕ) : Type 0 where
  pub text : line ≡ rule_text b s
  pub born : b < 512
  pub stays : s < 512

-- the middle after four generations, in every plane that has the square
abbrev pub MiddleOf : Law → List ℕ → ℕ → Type 0
MiddleOf r bs w =
    (p : Plane Bool) → ((x y : ℕ) → x < 16 → y < 16 → p (pos x) (pos y) ≡ drawn_at bs x y) →
    (x y : ℕ) → x < 8 → y < 8 → cell_in w x y ≡ after r 4 p (pos (x + 4)) (pos (y + 4))

abbrev pub Meant : List ℕ → Result ℕ Fault → Type 0
Meant bs (Ok w) = (b : ℕ) × (s : ℕ) × Names (first_line bs) b s × T (good_rule (rule_of b s)) × SquareText (next_lines bs) × MiddleOf (rule_of b s) (next_lines bs) w
Meant bs (Err NoRule) = (b s : ℕ) → Names (first_line bs) b s → ⊥
Meant bs (Err BadRule) = (b : ℕ) × (s : ℕ) × Names (first_line bs) b s × T (not (good_rule (rule_of b s)))
Meant bs (Err BadSquare) = (b : ℕ) × (s : ℕ) × Names (first_line bs) b s × T (good_rule (rule_of b s)) × (SquareText (next_lines bs) → ⊥)

-- The middle as text: the byte at each place of eight lines.
abbrev pub byte_of_middle : ℕ → ℕ → ℕ
byte_of_middle w k = cond (k % 9 == 8) 10 (cond (cell_in w (k % 9) (k / 9)) 111 46)

abbrev pub fault_text : Fault → List ℕ
fault_text NoRule = codes "the first line is no rule, as b3s23"
fault_text BadRule = codes "the rule has birth from nothing"
fault_text BadSquare = codes "after the rule come sixteen lines of sixteen cells, each . or o"
