-- How the next generation of a list is worked out: row by row, and in a row column by column, through a window of three rows and three columns.
use Rattle.std.specs.Prelude.{◌≡◌, ℕ, ◌+◌, ◌-◌, ◌*◌, ◌^◌, ◌<◌, ◌≤◌, Bool, true, false, cond, ◌&&◌, T, ◌⊎◌, List, length, ℤ, Ok, Err, Result, nat_lt}
use Rattle.model.specs.declared.Refusal.{Refusal}
use Rattle.model.specs.declared.Refusal.TheVariants.{NoRoom}
use Rattle.model.specs.Planes.{Plane, back, ahead, step}
use Rattle.model.specs.Rules.{Rule, good_rule, as_one, life}
use Rattle.model.specs.Lists.{next_of}
use Rattle.model.specs.World.{most_cells}
use Rattle.model.specs.declared.Cell.{Cell}
use Rattle.model.specs.Cells.{cell_at, before, in_order, lives, plane_of}
use Rattle.lent.specs.declared.Stretch.{Stretch}
use Rattle.lent.specs.Stretches.{to_z, tab, entry, row_at, col_at, cells_in, room_words, Listed, Apart}
use Rattle.generation.specs.declared.scan.Cursor.{Cursor}
use Rattle.generation.specs.declared.scan.Sweep.{Sweep}
use Rattle.generation.specs.declared.scan.Rows.{Rows}

-- the column of the cell i, or a number above any column where the row ended at e
abbrev pub head_of : List ℕ → Stretch → ℕ → ℕ → ℕ
head_of m s i e = cond (nat_lt i e) (col_at m s.at i) (2 ^ 64 - 1)

-- the cursor of a row stands at its first cell from column x on
pub record CursorAt (m : List ℕ) (s : Stretch) (x : ℕ) (c : Cursor) : Type 0 where
  pub low : c.at ≤ c.end
  pub high : c.end ≤ s.len
  pub past : (k : ℕ) → k < c.at → (row_at m s.at k < c.row) ⊎ ((row_at m s.at k ≡ c.row) × (col_at m s.at k < x))
  pub here : (k : ℕ) → c.at ≤ k → k < c.end → (row_at m s.at k ≡ c.row) × (x ≤ col_at m s.at k)
  pub under : (k : ℕ) → c.end ≤ k → k < s.len → c.row < row_at m s.at k
  pub head : c.head ≡ head_of m s c.at c.end

-- how many of three cells live, one above the other, with the middle one at x, y
abbrev pub column : Plane Bool → ℤ → ℤ → ℕ
column p x y = as_one (p x (back y)) + (as_one (p x y) + as_one (p x (ahead y)))

-- the window: its left and middle columns are counted, the cursors stand at its right column
pub record Window (m : List ℕ) (s : Stretch) (w : Sweep) : Type 0 where
  pub upper : CursorAt m s (w.x + 2) w.above
  pub same : CursorAt m s (w.x + 2) w.here
  pub lower : CursorAt m s (w.x + 2) w.below
  pub second : w.here.row ≡ w.above.row + 1
  pub third : w.below.row ≡ w.above.row + 2
  pub first_column : w.left ≡ column (plane_of (cells_in m s)) (to_z w.x) (to_z w.here.row)
  pub next_column : w.middle ≡ column (plane_of (cells_in m s)) (to_z (w.x + 1)) (to_z w.here.row)
  pub centre : w.alive ≡ lives (to_z (w.x + 1)) (to_z w.here.row) (cells_in m s)
  pub bound : w.x ≤ 2 ^ 62

-- there is a living cell in the window
abbrev pub Ready : Sweep → Type 0
Ready w = (0 < w.left + w.middle) ⊎ ((w.above.head ≡ w.x + 2) ⊎ ((w.here.head ≡ w.x + 2) ⊎ (w.below.head ≡ w.x + 2)))

-- falls with each column
abbrev pub weight : Sweep → ℕ
weight w = 9 * ((w.above.end - w.above.at) + (w.here.end - w.here.at) + (w.below.end - w.below.at)) + 2 * w.middle + w.left

-- no cell in the rows v to v + 2 and the columns from a to before b
abbrev pub Bare : List ℕ → Stretch → ℕ → ℕ → ℕ → Type 0
Bare m s v a b =
    (k : ℕ) → k < s.len → v ≤ row_at m s.at k → row_at m s.at k ≤ v + 2 → a ≤ col_at m s.at k → col_at m s.at k < b → ⊥

-- what was passed over has no cell near it
abbrev pub Skipped : List ℕ → Stretch → Sweep → Sweep → Bool → Type 0
Skipped m s w w' true =
    Window m s w' × Ready w' × (weight w' ≡ weight w) × (w'.above.row ≡ w.above.row) × (w.x ≤ w'.x) ×
    ((w'.x ≡ w.x) ⊎ Bare m s w.above.row w.x (w'.x + 2))
Skipped m s w w' false = Bare m s w.above.row w.x (2 ^ 64)

-- the rows: the cells from a to b are those of row top, from b to c those of the next, from c to d those of the third
pub record RowsAt (m : List ℕ) (s : Stretch) (q : Rows) : Type 0 where
  pub ab : q.a ≤ q.b
  pub bc : q.b ≤ q.c
  pub cd : q.c ≤ q.d
  pub dn : q.d ≤ s.len
  pub gone : (k : ℕ) → k < q.a → row_at m s.at k < q.top
  pub upper : (k : ℕ) → q.a ≤ k → k < q.b → row_at m s.at k ≡ q.top
  pub same : (k : ℕ) → q.b ≤ k → k < q.c → row_at m s.at k ≡ q.top + 1
  pub lower : (k : ℕ) → q.c ≤ k → k < q.d → row_at m s.at k ≡ q.top + 2
  pub left : (k : ℕ) → q.d ≤ k → k < s.len → q.top + 2 < row_at m s.at k
  pub bound : q.top ≤ 2 ^ 62

-- falls with each row
abbrev pub rows_left : Stretch → Rows → ℕ
rows_left s q = (s.len - q.a) + (s.len - q.b) + (s.len - q.c) + (s.len - q.d)

-- no cell lies in the rows from a to before b
abbrev pub NoRows : List ℕ → Stretch → ℕ → ℕ → Type 0
NoRows m s a b = (k : ℕ) → k < s.len → a ≤ row_at m s.at k → row_at m s.at k < b → ⊥

abbrev pub RowsSkipped : List ℕ → Stretch → Rows → Rows → Bool → Type 0
RowsSkipped m s q q' true =
    RowsAt m s q' × (q'.a < q'.d) × (rows_left s q' ≤ rows_left s q) × (q.top ≤ q'.top) × ((q'.top ≡ q.top) ⊎ NoRows m s q.top (q'.top + 2))
RowsSkipped m s q q' false = NoRows m s q.top (2 ^ 64)

-- of the plane p exactly the cells before c stand in the list, in order
pub record Done (p : Plane Bool) (out : List Cell) (c : Cell) : Type 0 where
  pub ordered : T (in_order out)
  pub each : (x y : ℤ) → lives x y out ≡ (before (cell_at x y) c && p x y)

-- the next generation of the list of a stretch, cell by cell
abbrev pub plane_next : Rule → List ℕ → Stretch → Plane Bool
plane_next r m s = step (life r) (plane_of (cells_in m s))

-- the cell whose fate is worked out next
abbrev pub centre_of : Sweep → Cell
centre_of w = cell_at (to_z (w.x + 1)) (to_z w.here.row)

-- left of all cells of row v
abbrev pub row_start : ℕ → Cell
row_start v = cell_at (to_z 1) (to_z v)

-- so far the list at the word `to` has, of the next generation of the list s, the cells before c
pub record Progress (r : Rule) (m : List ℕ) (s : Stretch) (to out : ℕ) (c : Cell) : Type 0 where
  pub good : T (good_rule r)
  pub listed : Listed m s
  pub room : to + room_words ≤ length m
  pub apart : Apart s.at to
  pub few : out ≤ most_cells
  pub done : Done (plane_next r m s) (tab (entry m to) 0 out) c

-- more cells live in the next generation than are always held
abbrev pub Full : Rule → List ℕ → Stretch → Type 0
Full r m s = most_cells < length (next_of r (cells_in m s))

-- After one column: what was made so far, with the window w'; or that the list is full.
abbrev pub Turned : Rule → List ℕ → List ℕ → Stretch → ℕ → Sweep → Result Stretch Refusal → Type 0
Turned r m m' s to w' (Ok t) = (t.at ≡ to) × Progress r m' s to t.len (centre_of w') × Window m' s w'
Turned r m m' s to w' (Err e) = (e ≡ NoRoom) × Full r m s

-- after one row, the one above row v
abbrev pub RowMade : Rule → List ℕ → List ℕ → Stretch → ℕ → ℕ → Result Stretch Refusal → Type 0
RowMade r m m' s to v (Ok t) = (t.at ≡ to) × Progress r m' s to t.len (row_start v)
RowMade r m m' s to v (Err e) = (e ≡ NoRoom) × Full r m s

-- after all rows: the list at `to` is the next generation; or that its cells are too many
abbrev pub NextMade : Rule → List ℕ → List ℕ → Stretch → ℕ → Result Stretch Refusal → Type 0
NextMade r m m' s to (Ok t) = (t.at ≡ to) × (t.len ≤ most_cells) × (cells_in m' t ≡ next_of r (cells_in m s))
NextMade r m m' s to (Err e) = (e ≡ NoRoom) × Full r m s
