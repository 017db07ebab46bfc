-- A table of worked cases, as equations.
use Rattle.std.specs.Prelude.{◌≡◌, ℕ, ◌+◌, ◌^◌, Bool, true, false, List, [], ◌∷◌, length, pos, negsuc, Some, None}
use Rattle.model.specs.Planes.{always}
use Rattle.model.specs.Rules.{Rule, good_rule, rule_of, life}
use Rattle.model.specs.Cells.{Cell, cell_at, lives, bounds_of}
use Rattle.model.specs.Lists.{nexts}
use Rattle.model.specs.World.{world_of, far, fits, period, capped}
use Rattle.model.specs.Squares.{Square, Leaf, Four, leap}

abbrev pub place : ℕ → ℕ → Cell
place x y = cell_at (pos x) (pos y)

abbrev pub b3s23 : Rule
b3s23 =
    record { born = false ∷ false ∷ false ∷ true ∷ false ∷ false ∷ false ∷ false ∷ false ∷ []; stays = false ∷ false ∷ true ∷ true ∷ false ∷ false ∷ false ∷ false ∷ false ∷ [] }

abbrev pub b1s : Rule
b1s =
    record { born = false ∷ true ∷ false ∷ false ∷ false ∷ false ∷ false ∷ false ∷ false ∷ []; stays = false ∷ false ∷ false ∷ false ∷ false ∷ false ∷ false ∷ false ∷ false ∷ [] }

abbrev pub blinker : List Cell
blinker = place 0 0 ∷ place 1 0 ∷ place 2 0 ∷ []

-- three in a row
abbrev pub RowA : Type 0
RowA =
    (nexts b3s23 1 blinker ≡ cell_at (pos 1) (negsuc 0) ∷ place 1 0 ∷ place 1 1 ∷ []) ×
    (period 2 (world_of b3s23 blinker) ≡ Some (record { t = 2; dx = pos 0; dy = pos 0 })) × (period 1 (world_of b3s23 blinker) ≡ None)

abbrev pub glider : List Cell
glider = place 1 0 ∷ place 2 1 ∷ place 0 2 ∷ place 1 2 ∷ place 2 2 ∷ []

-- five cells that wander: after 4,000 generations the first of them is at 1001, 1000
abbrev pub RowB : Type 0
RowB =
    (period 4 (world_of b3s23 glider) ≡ Some (record { t = 4; dx = pos 1; dy = pos 1 })) × (lives (pos 1001) (pos 1000) (nexts b3s23 4000 glider) ≡ true)

-- the empty plane
abbrev pub RowC : Type 0
RowC = (period 9 (world_of b3s23 []) ≡ Some (record { t = 1; dx = pos 0; dy = pos 0 })) × (capped (length {A = Cell} []) ≡ 0) × (bounds_of [] ≡ None)

abbrev pub two_by_two : (a b c d : Bool) → Square Bool
two_by_two a b c d = Four (Leaf a) (Leaf b) (Leaf c) (Leaf d)

-- squares of side 4: all sixteen cells living, and only the four in the middle
abbrev pub RowD : Type 0
RowD =
    (let full = two_by_two true true true true in
    leap (always (life b3s23)) 0 (Four full full full full) ≡ two_by_two false false false false) ×
    (leap (always (life b3s23)) 0 (Four (two_by_two false false false true) (two_by_two false false true false) (two_by_two false true false false) (two_by_two true false false false)) ≡
    two_by_two true true true true)

-- birth with one, and nobody stays, from one cell
abbrev pub RowE : Type 0
RowE = (length (nexts b1s 1 (place 0 0 ∷ [])) ≡ 8) × (lives (pos 0) (pos 0) (nexts b1s 1 (place 0 0 ∷ [])) ≡ false)

-- rules as numbers
abbrev pub RowF : Type 0
RowF =
    (rule_of 8 12 ≡ b3s23) × (rule_of 2 0 ≡ b1s) × (good_rule (rule_of 8 12) ≡ true) × (good_rule (rule_of 9 12) ≡ false) × (good_rule (rule_of 512 0) ≡ false)

-- the edge
abbrev pub RowG : Type 0
RowG = (far (pos (2 ^ 60)) (pos 0) ≡ false) × (fits 1 (world_of b3s23 (place (2 ^ 60) 0 ∷ [])) ≡ false) × (far (pos (2 ^ 60 + 1)) (pos 0) ≡ true)

abbrev pub RowsHold : Type 0
RowsHold = RowA × (RowB × (RowC × (RowD × (RowE × (RowF × RowG)))))
