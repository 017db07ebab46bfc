-- Leaps that are noted with squares, for a rule and an exponent.
use Rattle.std.specs.Prelude.{ℕ, suc, ◌+◌, ◌*◌, ◌^◌, cond, ◌&&◌, Some, None, Option, Bool, ◌==◌}
use Rattle.model.specs.Squares.{Square}
use Rattle.rules.specs.declared.Rule.{Rule}
use Rattle.rules.specs.Laws.{law}
use Rattle.nodes.specs.Nodes.{IsAt, square_of}
use Rattle.nodes.specs.Memory.{word, kind_of, target_of, stamp_of, leap_of}
use Rattle.notes.specs.declared.Leap.{Leap}
use Rattle.slots.specs.declared.Store.{Store}
use Rattle.slots.specs.Stores.{mem, table}

-- the leap, to depth p, of a square of depth p + 1
abbrev pub leap_to : Leap → ℕ → Square Bool → Square Bool
leap_to l p = leap_of (law l.rule) l.exponent p

-- the number n stands for the leap of the square i of depth p + 1
abbrev pub IsLeapOf : Store → Leap → (p i n : ℕ) → Type 0
IsLeapOf s l p i n = IsAt s.slots (table s) p n (leap_to l p (square_of (table s) (suc p) i))

-- tells a rule from all others
abbrev pub stamp_for : Rule → ℕ
stamp_for r = r.born + 512 * r.stays

-- the note that the leap by 2^e generations under the rule r is the square l
abbrev pub note_for : Rule → (e l : ℕ) → ℕ
note_for r e l = e + 1 + 2 ^ 7 * l + 2 ^ 33 * stamp_for r

-- which word of a slot has the note: one is for the longest leap of the square, the other for all shorter ones
abbrev pub field_for : (e p : ℕ) → ℕ
field_for e p = cond (e == p + 2) 3 4

-- the square that the note w names, if it is a note for the rule and the exponent that are asked for
abbrev pub recalled : Rule → (e w : ℕ) → Option ℕ
recalled r e w = cond (kind_of w == e + 1 && stamp_of w == stamp_for r) (Some (target_of w)) None

-- the word of square i that notes its leap by 2^e generations
abbrev pub note_in : Store → (e p i : ℕ) → ℕ
note_in s e p i = word s.at (mem s) i (field_for e p)
