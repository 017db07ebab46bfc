-- Ordered lists of cells in stretches of lent words: two words a cell, its row and then its column.
use Rattle.std.specs.Prelude.{◌≡◌, ◌⊎◌, List, [], ◌∷◌, ℕ, zero, suc, ◌+◌, ◌*◌, ◌^◌, ◌<◌, ◌≤◌, T, ℤ, pos, neg_ℤ, ◌+ℤ◌, length, get_or, set}
use Rattle.model.specs.declared.Cell.{Cell}
use Rattle.model.specs.Cells.{cell_at, in_order}
use Rattle.model.specs.World.{edge, farthest}
use Rattle.lent.specs.declared.Stretch.{Stretch}

-- a coordinate is kept as the number that is 2^61 larger
abbrev pub to_z : ℕ → ℤ
to_z w = pos w +ℤ neg_ℤ (pos (2 ^ 61))

-- f i, f (i + 1), .., n of them
unfoldable pub tab : (ℕ → Cell) → ℕ → ℕ → List Cell
tab f i zero = []
tab f i (suc n) = f i ∷ tab f (suc i) n

abbrev pub row_at : List ℕ → ℕ → ℕ → ℕ
row_at m at i = get_or m (at + 2 * i) 0

abbrev pub col_at : List ℕ → ℕ → ℕ → ℕ
col_at m at i = get_or m (at + 2 * i + 1) 0

-- the i-th cell of the list that begins at the word `at`
abbrev pub entry : List ℕ → ℕ → ℕ → Cell
entry m at i = cell_at (to_z (col_at m at i)) (to_z (row_at m at i))

-- the memory with that cell written
abbrev pub with_entry : List ℕ → ℕ → ℕ → ℕ → ℕ → List ℕ
with_entry m at i row col = set (set m (at + 2 * i) row) (at + 2 * i + 1) col

-- the list of a stretch
abbrev pub cells_in : List ℕ → Stretch → List Cell
cells_in m s = tab (entry m s.at) 0 s.len

-- A stretch has room for so many cells, one more than a plane of lists holds: one of them may be erased again.
abbrev pub room_cells : ℕ
room_cells = 4097

abbrev pub room_words : ℕ
room_words = 2 * room_cells

-- the words of a stretch lie in the memory, and its list is in order and nowhere beyond the edge
pub record Listed (m : List ℕ) (s : Stretch) : Type 0 where
  pub within : s.at + room_words ≤ length m
  pub few : s.len ≤ room_cells
  pub ordered : T (in_order (cells_in m s))
  pub near : farthest (cells_in m s) ≤ edge

-- no word outside of the stretch at `at` was changed
pub record Beside (at : ℕ) (m m' : List ℕ) : Type 0 where
  pub long : length m' ≡ length m
  pub others : (k : ℕ) → (k < at) ⊎ (at + room_words ≤ k) → get_or m' k 0 ≡ get_or m k 0

-- the cells from..from + n of the list at the word `at` stand where to..to + n stood, and the others are as they were
pub record Copied (at from to n : ℕ) (m m' : List ℕ) : Type 0 where
  pub moved : (k : ℕ) → k < n → entry m' at (to + k) ≡ entry m at (from + k)
  pub others : (k : ℕ) → (k < to) ⊎ (to + n ≤ k) → entry m' at k ≡ entry m at k

-- two stretches that share no word
abbrev pub Apart : ℕ → ℕ → Type 0
Apart a b = (a + room_words ≤ b) ⊎ (b + room_words ≤ a)
