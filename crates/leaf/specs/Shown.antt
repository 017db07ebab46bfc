-- A word at a place of a plane.
use Rattle.std.specs.Prelude.{◌≡◌, ℕ, ◌+◌, ◌-◌, ◌<◌, ◌≤◌, Bool, pos}
use Rattle.model.specs.Planes.{Plane, always, steps}
use Rattle.model.specs.Rules.{Rule as Law, life}
use Rattle.leaf.specs.Words.{cell_in}

-- The word whose upper left cell lies at i, j shows the plane in its columns and rows from a to before b.
pub record Shows (w : ℕ) (p : Plane Bool) (i j a b : ℕ) : Type 0 where
  pub at : (x y : ℕ) → a ≤ x → x < b → a ≤ y → y < b → cell_in w x y ≡ p (pos (i + x)) (pos (j + y))

abbrev pub after : Law → ℕ → Plane Bool → Plane Bool
after r n p = steps (always (life r)) n p

-- In whatever plane the first word stands, the second shows it n generations later, but for n rings of cells.
pub record Later (r : Law) (n w next : ℕ) : Type 0 where
  pub shows : (p : Plane Bool) (i j : ℕ) → Shows w p i j 0 8 → Shows next (after r n p) i j n (8 - n)

-- The four words of a square of side 16.
pub record Shows16 (nw ne sw se : ℕ) (p : Plane Bool) : Type 0 where
  pub upper_left : (x y : ℕ) → x < 8 → y < 8 → p (pos x) (pos y) ≡ cell_in nw x y
  pub upper_right : (x y : ℕ) → x < 8 → y < 8 → p (pos (x + 8)) (pos y) ≡ cell_in ne x y
  pub lower_left : (x y : ℕ) → x < 8 → y < 8 → p (pos x) (pos (y + 8)) ≡ cell_in sw x y
  pub lower_right : (x y : ℕ) → x < 8 → y < 8 → p (pos (x + 8)) (pos (y + 8)) ≡ cell_in se x y
