-- A stride: the square padded twice, and leapt.
use Rattle.std.specs.Prelude.{ℕ, suc, ◌+◌, ◌*◌, ◌<◌, ◌≤◌, Bool, false}
use Rattle.model.specs.Squares.{Square, padded}
use Rattle.nodes.specs.Memory.{hold_room}
use Rattle.notes.specs.declared.Leap.{Leap}
use Rattle.notes.specs.Noting.{leap_to}
use Rattle.slots.specs.declared.Store.{Store}
use Rattle.slots.specs.Stores.{Good, Has}
use Rattle.holds.specs.Holding.{held}

-- the leap of a square of depth b + 2, padded: nothing can reach the rim of what comes back
abbrev pub leap_once : Leap → (b : ℕ) → Square Bool → Square Bool
leap_once l b q = leap_to l (suc (suc b)) (padded false (suc (suc (suc (suc b)))) q)

-- the same of a square of depth b + 1, padded twice; by as much again it has grown
abbrev pub stride_of : Leap → (b : ℕ) → Square Bool → Square Bool
stride_of l b q = leap_once l b (padded false (suc (suc (suc b))) q)

-- what a stride of the square that hold k keeps is given
pub record Stride (s : Store) (l : Leap) (b k : ℕ) : Type 0 where
  pub good : Good s
  pub below : k < s.top
  pub has : Has s (suc b) (held s k)
  pub power : l.exponent ≤ b + 3
  pub deep : b < 58
  pub room : s.top + 14 * b + 33 ≤ hold_room

-- the same of the number of a square of depth b + 2 that need not be held
pub record Padding (s : Store) (l : Leap) (b i : ℕ) : Type 0 where
  pub good : Good s
  pub has : Has s (suc (suc b)) i
  pub power : l.exponent ≤ b + 3
  pub deep : b < 58
  pub room : s.top + 14 * b + 33 ≤ hold_room

-- and room to pad it
pub record Lone (s : Store) (b i : ℕ) : Type 0 where
  pub good : Good s
  pub has : Has s (suc (suc b)) i
  pub deep : b < 58
  pub room : s.top + 5 ≤ hold_room
