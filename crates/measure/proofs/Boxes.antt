-- The box around a list, cell by cell from its end.
use Rattle.std.proofs.Common.{◌≡◌, ℕ, suc, ◌-◌, ◌<◌, ◌≤◌, List, [], Some, None, ℤ, FitsSigned, w64, to_z, of_z, sym, ◌∙◌, arith}
use borrow.Author.Differences.{ints}
use mir.ValLaws.{to_z-of_z}
use Rattle.model.specs.declared.Bounds.{Bounds}
use Rattle.model.specs.Cells.{lesser, greater, box_of, bounds_of}
use Rattle.std.specs.Int.{int_min, int_max}
use Rattle.lent.specs.declared.Stretch.{Stretch}
use Rattle.lent.specs.Stretches.{tab, entry, cells_in}
use Rattle.measure.specs.Boxes.{widened}

-- the box around the first cell and those from the i-th on
abbrev pub box_from : List ℕ → Stretch → ℕ → Bounds
box_from m s i = box_of (entry m s.at 0) (tab (entry m s.at) i (s.len - i))

lesser_min : (a b : ℤ) → int_min a b ≡ lesser b a
lesser_min a b = grind (arith, ints)

greater_max : (a b : ℤ) → int_max a b ≡ greater b a
greater_max a b = grind (arith, ints)

-- and of coordinates in the machine
pub low_side : (r a b : ℤ) → FitsSigned w64 r → FitsSigned w64 a → FitsSigned w64 b → r ≡ int_min (to_z w64 (of_z w64 a)) (to_z w64 (of_z w64 b)) → to_z w64 (of_z w64 r) ≡ lesser b a
low_side r a b f g h e = to_z-of_z w64 r f ∙ e ∙ (λ i. int_min (to_z-of_z w64 a g i) (to_z-of_z w64 b h i)) ∙ lesser_min a b

pub high_side : (r a b : ℤ) → FitsSigned w64 r → FitsSigned w64 a → FitsSigned w64 b → r ≡ int_max (to_z w64 (of_z w64 a)) (to_z w64 (of_z w64 b)) → to_z w64 (of_z w64 r) ≡ greater b a
high_side r a b f g h e = to_z-of_z w64 r f ∙ e ∙ (λ i. int_max (to_z-of_z w64 a g i) (to_z-of_z w64 b h i)) ∙ greater_max a b

pub box_first : (m : List ℕ) (s : Stretch) → box_of (entry m s.at 0) [] ≡ box_from m s s.len
unfolding tab
box_first m s = let z : 0 ≡ s.len - s.len = omega arith in λ t. box_of (entry m s.at 0) (tab (entry m s.at) s.len (z t))

-- one cell more in front
pub box_join : (m : List ℕ) (s : Stretch) (i : ℕ) → 0 < i → i ≤ s.len → widened (box_from m s i) (entry m s.at (i - 1)) ≡ box_from m s (i - 1)
unfolding tab box_of
box_join m s i l h =
    let z : s.len - (i - 1) ≡ suc (s.len - i) = omega arith in let w : suc (i - 1) ≡ i = omega arith in
    sym ((λ t. box_of (entry m s.at 0) (tab (entry m s.at) (i - 1) (z t))) ∙
    (λ t. widened (box_of (entry m s.at 0) (tab (entry m s.at) (w t) (s.len - i))) (entry m s.at (i - 1))))

pub bounds_empty : (m : List ℕ) (s : Stretch) → s.len ≡ 0 → None ≡ bounds_of (cells_in m s)
unfolding tab
bounds_empty m s e = λ t. bounds_of (tab (entry m s.at) 0 (sym e t))

pub bounds_box : (m : List ℕ) (s : Stretch) (k : Bounds) → 0 < s.len → k ≡ box_from m s 1 → Some k ≡ bounds_of (cells_in m s)
unfolding tab
bounds_box m s k h e =
    let z : suc (s.len - 1) ≡ s.len = omega arith in (λ t. Some (e t)) ∙ (λ t. bounds_of (tab (entry m s.at) 0 (z t)))

pub box_last : (m : List ℕ) (s : Stretch) (i : ℕ) → 0 < i → i ≤ 1 → box_from m s i ≡ box_from m s 1
box_last m s i l h = let z : i ≡ 1 = omega arith in λ t. box_from m s (z t)
