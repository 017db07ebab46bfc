-- Where a cell stands in an ordered list, or would stand.
use Rattle.std.specs.Prelude.{◌≡◌, ℕ, ◌+◌, ◌-◌, ◌<◌, ◌≤◌, ◌⊎◌, List}
use Rattle.lent.specs.declared.Stretch.{Stretch}
use Rattle.lent.specs.Stretches.{row_at, col_at}

-- the k-th cell comes before the one of that row and column, given as words
abbrev pub Earlier : List ℕ → Stretch → ℕ → ℕ → ℕ → Type 0
Earlier m s k row col = (row_at m s.at k < row) ⊎ ((row_at m s.at k ≡ row) × (col_at m s.at k < col))

-- or it doesn't
abbrev pub Later : List ℕ → Stretch → ℕ → ℕ → ℕ → Type 0
Later m s k row col = (row < row_at m s.at k) ⊎ ((row_at m s.at k ≡ row) × (col ≤ col_at m s.at k))

-- the index of the first cell that doesn't come before
pub record Place (m : List ℕ) (s : Stretch) (row col i : ℕ) : Type 0 where
  pub high : i ≤ s.len
  pub early : (k : ℕ) → k < i → Earlier m s k row col
  pub late : (k : ℕ) → i ≤ k → k < s.len → Later m s k row col

-- the i-th cell is the one of that row and column
abbrev pub Holds : List ℕ → Stretch → ℕ → ℕ → ℕ → Type 0
Holds m s i row col = (i < s.len) × (row_at m s.at i ≡ row) × (col_at m s.at i ≡ col)

-- one cell more, one less
abbrev pub longer : Stretch → Stretch
longer s = record { at = s.at; len = s.len + 1 }

abbrev pub shorter : Stretch → Stretch
shorter s = record { at = s.at; len = s.len - 1 }
