-- Cells as two words each.
use Rattle.std.specs.Prelude.{◌≡◌, List, [], ◌∷◌, ℕ, ◌*◌, ◌^◌, ◌<◌, ◌≤◌, length, slice_index_or}
use Rattle.model.specs.declared.Cell.{Cell}
use Rattle.model.specs.Cells.{cell_at}
use Rattle.lent.specs.Stretches.{to_z, row_at, col_at}
use Rattle.lent.specs.declared.Entry.{Entry}
use Rattle.lent.specs.declared.Stretch.{Stretch}

abbrev pub cell_of : Entry → Cell
cell_of e = cell_at (to_z e.column) (to_z e.row)

-- the words of the i-th cell of the list that begins at the word `at`
abbrev pub entry_at : List ℕ → ℕ → ℕ → Entry
entry_at m at i = record { row = row_at m at i; column = col_at m at i }

-- it lies nowhere beyond the edge
pub record Near (e : Entry) : Type 0 where
  pub row : e.row ≤ 3 * 2 ^ 60
  pub column : e.column ≤ 3 * 2 ^ 60

-- the cells of a stretch, each as its row and its column
pub record Pairs (m : List ℕ) (s : Stretch) (pairs : List (List ℕ)) : Type 0 where
  pub all : length pairs ≡ s.len
  pub each : (k : ℕ) (other : List ℕ) → k < s.len → slice_index_or pairs k other ≡ row_at m s.at k ∷ col_at m s.at k ∷ []
