-- The words of a stretch whose list is in order and not beyond the edge.
use mathlib.Core.Path.{◌≡◌, refl, ap}
use mathlib.Core.List.{List}
use mathlib.Core.Logic.{◌⊎◌}
use Prim.Native.Nat.{ℕ, ◌+◌, ◌*◌, ◌^◌, ◌<◌, ◌≤◌}
use native.Mathlib.Omega.{arith}
use borrow.Author.Differences.{ints}
use lib.Dec.{T}
use lib.IntN.{ℤ}
use Rattle.model.specs.Planes.{back, ahead}
use Rattle.model.specs.declared.Cell.{Cell}
use Rattle.model.specs.Cells.{cell_at, before, lives}
use Rattle.model.specs.World.{size, edge}
use Rattle.model.proofs.Reach.{far_out}
use Rattle.lent.specs.declared.Stretch.{Stretch}
use Rattle.lent.specs.Stretches.{to_z, row_at, col_at, entry, cells_in, Listed}
use Rattle.lent.proofs.Tab.{tab_out, tab_in, order_tab}

pub to_z_inj : (a b : ℕ) → to_z a ≡ to_z b → a ≡ b
to_z_inj a b e = omega (arith, ints)

pub to_z_ahead : (a : ℕ) → ahead (to_z a) ≡ to_z (a + 1)
to_z_ahead a = omega (arith, ints)

pub to_z_back : (a : ℕ) → back (to_z (a + 1)) ≡ to_z a
to_z_back a = omega (arith, ints)

before_words : (a b c d : ℕ) → T (before (cell_at (to_z b) (to_z a)) (cell_at (to_z d) (to_z c))) → (a < c) ⊎ ((a ≡ c) × (b < d))
before_words a b c d t = grind (arith, ints)

pub listed_order : (m : List ℕ) (s : Stretch) → Listed m s → (j k : ℕ) → j < k → k < s.len →
    (row_at m s.at j < row_at m s.at k) ⊎ ((row_at m s.at j ≡ row_at m s.at k) × (col_at m s.at j < col_at m s.at k))
listed_order m s h j k a b = before_words _ _ _ _ (order_tab (entry m s.at) 0 s.len h.ordered j k (omega arith) a (omega arith))

-- a coordinate that is not beyond the edge, as a word
near_word : (w : ℕ) → size (to_z w) ≤ 2 ^ 60 → (2 ^ 60 ≤ w) × (w ≤ 3 * 2 ^ 60)
near_word w h = grind (arith, ints)

pub listed_lives : (m : List ℕ) (s : Stretch) (k : ℕ) → k < s.len → T (lives (to_z (col_at m s.at k)) (to_z (row_at m s.at k)) (cells_in m s))
listed_lives m s k h = tab_in (entry m s.at) 0 s.len _ _ (record { index = k; low = omega arith; high = omega arith; is = refl })

-- no cell of a list lies beyond the edge
pub listed_inside : (m : List ℕ) (s : Stretch) → Listed m s → (k : ℕ) → k < s.len → (size (entry m s.at k).x ≤ edge) × (size (entry m s.at k).y ≤ edge)
listed_inside m s h k b =
    let f = far_out (cells_in m s) (to_z (col_at m s.at k)) (to_z (row_at m s.at k)) (listed_lives m s k b) in let n = h.near in
    let fx = f.0 in let fy = f.1 in (omega arith, omega arith)

pub listed_near : (m : List ℕ) (s : Stretch) → Listed m s → (k : ℕ) → k < s.len →
    ((2 ^ 60 ≤ row_at m s.at k) × (row_at m s.at k ≤ 3 * 2 ^ 60)) × ((2 ^ 60 ≤ col_at m s.at k) × (col_at m s.at k ≤ 3 * 2 ^ 60))
listed_near m s h k b = let f = listed_inside m s h k b in (near_word (row_at m s.at k) f.1, near_word (col_at m s.at k) f.0)

-- the index of a living cell
pub record Found (m : List ℕ) (s : Stretch) (x y : ℤ) : Type 0 where
  pub index : ℕ
  pub high : index < s.len
  pub column : to_z (col_at m s.at index) ≡ x
  pub row : to_z (row_at m s.at index) ≡ y

pub listed_find : (m : List ℕ) (s : Stretch) (x y : ℤ) → T (lives x y (cells_in m s)) → Found m s x y
listed_find m s x y t =
    let k = tab_out (entry m s.at) 0 s.len x y t in let e = k.is in
    record { index = k.index; high = omega arith; column = ap (λ (c : Cell). c.x) e; row = ap (λ (c : Cell). c.y) e }
