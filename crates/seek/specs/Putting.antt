-- One cell that is put into a square.
use Rattle.std.specs.Prelude.{ℕ, suc, ◌+◌, ◌^◌, ◌<◌, ◌≤◌, Bool}
use Rattle.model.specs.Squares.{Square, with_state}
use Rattle.nodes.specs.Memory.{hold_room}
use Rattle.slots.specs.declared.Store.{Store}
use Rattle.slots.specs.Stores.{Good, Has}
use Rattle.holds.specs.Holding.{held}

-- the square of depth d with the cell living or not that is x to the right and y down
abbrev pub put_in : (d x y : ℕ) → Bool → Square Bool → Square Bool
put_in d x y b q = with_state (suc (suc (suc d))) q x y b

-- the square of depth d that hold k keeps has the cell at x, y, and there is room to put it
pub record Task (s : Store) (d k x y : ℕ) : Type 0 where
  pub good : Good s
  pub below : k < s.top
  pub has : Has s d (held s k)
  pub deep : d ≤ 60
  pub column : x < 2 ^ suc (suc (suc d))
  pub row : y < 2 ^ suc (suc (suc d))
  pub room : s.top + d ≤ hold_room

-- the same of the number of a square that is not held
pub record Loose (s : Store) (d i x y : ℕ) : Type 0 where
  pub good : Good s
  pub has : Has s d i
  pub deep : d ≤ 60
  pub column : x < 2 ^ suc (suc (suc d))
  pub row : y < 2 ^ suc (suc (suc d))
  pub room : s.top + d + 1 ≤ hold_room
