-- A word of 64 bits as a square of side 8: the cell in column x of row y is bit 8 * y + x.
use Rattle.std.specs.Prelude.{◌≡◌, ℕ, zero, suc, ◌+◌, ◌-◌, ◌*◌, ◌/◌, ◌%◌, ◌^◌, ◌<◌, Bool, ◌&&◌, ◌==◌, nat_le, nat_lt}
use Rattle.model.specs.Rules.{Rule as Law, as_one, tally, becomes}

unfoldable pub bit : ℕ → ℕ → Bool
bit w k = w / 2 ^ k % 2 == 1

unfoldable pub cell_in : ℕ → ℕ → ℕ → Bool
unfolding bit
cell_in w x y = bit w (8 * y + x)

-- the bit as a number
abbrev pub digit : ℕ → ℕ → ℕ
digit w k = as_one (bit w k)

-- a sum over the numbers below n
unfoldable pub sum_below : ℕ → (ℕ → ℕ) → ℕ
sum_below zero f = 0
sum_below (suc n) f = sum_below n f + f n

abbrev pub living_in : ℕ → ℕ
living_in w = sum_below 8 (λ y. sum_below 8 (λ x. as_one (cell_in w x y)))

abbrev pub is_at : ℕ → ℕ → ℕ → ℕ → Bool
is_at x y u v = u == x && v == y

abbrev pub in_row : ℕ → ℕ → ℕ → ℕ → ℕ → Bool
in_row y a b u v = v == y && nat_le a u && nat_lt u b

-- all eight neighbours of an inner cell are in the word
abbrev pub inner : ℕ → ℕ → Bool
inner x y = nat_lt 0 x && nat_lt x 7 && nat_lt 0 y && nat_lt y 7

abbrev pub neighbours_in : ℕ → ℕ → ℕ → ℕ
neighbours_in w x y =
    tally (cell_in w (x - 1) (y - 1)) (cell_in w x (y - 1)) (cell_in w (x + 1) (y - 1)) (cell_in w (x - 1) y) (cell_in w (x + 1) y)
    (cell_in w (x - 1) (y + 1)) (cell_in w x (y + 1)) (cell_in w (x + 1) (y + 1))

-- what the rule makes of an inner cell
abbrev pub next_in : Law → ℕ → ℕ → ℕ → Bool
next_in r w x y = becomes r (cell_in w x y) (neighbours_in w x y)

-- the word n has the next generation of the inner cells of w, and no other cells
abbrev pub NextOf : Law → (w n : ℕ) → Type 0
NextOf r w n = (x y : ℕ) → x < 8 → y < 8 → cell_in n x y ≡ (inner x y && next_in r w x y)
