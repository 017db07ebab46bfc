-- Leaps from their parts, and what the functions that work them out are given and give.
use Rattle.std.specs.Prelude.{ℕ, suc, ◌+◌, ◌-◌, ◌*◌, ◌/◌, ◌<◌, ◌≤◌, Bool, cond, ◌==◌, nat_lt}
use Rattle.model.specs.Rules.{Rule as Law}
use Rattle.model.specs.Squares.{Square, Four, middle}
use Rattle.nodes.specs.Memory.{hold_room, leap_of}
use Rattle.notes.specs.declared.Leap.{Leap}
use Rattle.slots.specs.declared.Store.{Store}
use Rattle.slots.specs.Stores.{Good, Has}
use Rattle.holds.specs.Holding.{held}
use Rattle.pieces.specs.Nine.{ninth}

-- of nine squares, three in a row, the four that touch at the i-th of the four inner corners, put together
abbrev pub touching : (ℕ → Square Bool) → ℕ → Square Bool
touching f i = let o = i + i / 2 in Four (f o) (f (o + 1)) (f (o + 3)) (f (o + 4))

abbrev pub four_of : (ℕ → Square Bool) → Square Bool
four_of g = Four (g 0) (g 1) (g 2) (g 3)

-- A leap by 2^e generations to depth b + 1: each of the nine goes by 2^(inner e b), half the way if e is the greatest power.
abbrev pub inner : ℕ → ℕ → ℕ
inner e b = cond (e == b + 3) (suc (suc b)) e

-- the leap of the i-th of the nine, to depth b
abbrev pub ninth_leap : Law → (e b i : ℕ) → Square Bool → Square Bool
ninth_leap r e b i q = leap_of r (inner e b) b (ninth i q)

-- the i-th quarter of the whole leap: the second half of the way, or the middle
abbrev pub quarter_leap : Law → (e b i : ℕ) → Square Bool → Square Bool
quarter_leap r e b i q =
    let s = touching (λ k. ninth_leap r e b k q) i in
    cond (e == b + 3) (leap_of r (suc (suc b)) b s) (middle s)

-- the thirteen parts in the order in which they are worked out
abbrev pub part_of : Law → (e b i : ℕ) → Square Bool → Square Bool
part_of r e b i q = cond (nat_lt i 9) (ninth_leap r e b i q) (quarter_leap r e b (i - 9) q)

-- what a leap to depth p of the square that hold k keeps is given
pub record Task (s : Store) (l : Leap) (p k : ℕ) : Type 0 where
  pub good : Good s
  pub below : k < s.top
  pub has : Has s (suc p) (held s k)
  pub power : l.exponent ≤ p + 2
  pub deep : p ≤ 60
  pub room : s.top + 14 * p ≤ hold_room
