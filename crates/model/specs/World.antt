-- The plane that people see: a rule and the living cells in order, and what can be asked of it.
use Rattle.std.specs.Prelude.{ℕ, zero, suc, ◌+◌, ◌-◌, ◌^◌, ◌<◌, ◌≤◌, Bool, true, cond, ◌&&◌, ◌||◌, List, [], ◌∷◌, length, ℤ, pos, negsuc, ◌+ℤ◌, neg_ℤ, Some, None, Option, nat_le, nat_lt}
use Rattle.model.specs.declared.Period.{Period}
use Rattle.model.specs.Planes.{ahead}
use Rattle.model.specs.Rules.{Rule}
use Rattle.model.specs.Cells.{Cell, cell_at, lives, put, moved, same_cells}
use Rattle.model.specs.Lists.{next_of, nexts}

pub record World : Type 0 where
  pub rule : Rule
  pub cells : List Cell

abbrev pub world_of : Rule → List Cell → World
world_of r cs = record { rule = r; cells = cs }

abbrev pub with_rule : Rule → World → World
with_rule r w = world_of r w.cells

abbrev pub with_cells : List Cell → World → World
with_cells cs w = world_of w.rule cs

abbrev pub with_cell : ℤ → ℤ → Bool → World → World
with_cell x y b w = with_cells (put (cell_at x y) b w.cells) w

-- n generations on
abbrev pub after : ℕ → World → World
after n w = with_cells (nexts w.rule n w.cells) w

-- a coordinate without its sign
abbrev pub size : ℤ → ℕ
size (pos n) = n
size (negsuc n) = suc n

-- the farthest coordinate of any cell, without sign
unfoldable pub farthest : List Cell → ℕ
farthest [] = 0
farthest (c ∷ cs) =
    let m = farthest cs in let a = cond (nat_lt (size c.x) (size c.y)) (size c.y) (size c.x) in cond (nat_lt m a) a m

-- no cell may come to lie farther out than this
abbrev pub edge : ℕ
edge = 2 ^ 60

abbrev pub far : ℤ → ℤ → Bool
far x y = nat_lt edge (size x) || nat_lt edge (size y)

-- the empty plane goes as far as one likes
unfoldable pub reach : ℕ → List Cell → Bool
reach n [] = true
reach n (c ∷ cs) = nat_le (farthest (c ∷ cs) + n) edge

-- no living cell can come to lie beyond the edge in n generations
abbrev pub fits : ℕ → World → Bool
fits n w = reach n w.cells

-- so many cells are always held
abbrev pub most_cells : ℕ
most_cells = 4096

-- some generation from now to the n-th has more living cells than that
abbrev pub Crowded : ℕ → World → Type 0
Crowded n w = (k : ℕ) × (k ≤ n) × (most_cells < length (nexts w.rule k w.cells))

-- After t generations the first list became the second: the period, if the second is the first one moved (the first cells tell by how much), else `go`.
abbrev pub returned : ℕ → List Cell → List Cell → Option Period → Option Period
returned t [] [] go = Some (record { t = t; dx = pos 0; dy = pos 0 })
returned t [] (d ∷ ds) go = go
returned t (c ∷ cs) [] go = go
returned t (c ∷ cs) (d ∷ ds) go =
    let dx = d.x +ℤ neg_ℤ c.x in let dy = d.y +ℤ neg_ℤ c.y in
    cond (same_cells (moved dx dy (c ∷ cs)) (d ∷ ds)) (Some (record { t = t; dx = dx; dy = dy })) go

-- the first of the generations t, t + 1, .., n of them, that is the list `first` moved; `last` is the generation before t
unfoldable pub period_from : Rule → ℕ → ℕ → List Cell → List Cell → Option Period
period_from r t zero first last = None
period_from r t (suc n) first last = returned t first (next_of r last) (period_from r (suc t) n first (next_of r last))

-- the least t from 1 to the bound after which the plane is the present one moved, and by how much
abbrev pub period : ℕ → World → Option Period
period bound w = period_from w.rule 1 bound w.cells w.cells

-- n cells of a row from x, y to the right, as 0 and 1
unfoldable pub bits : ℤ → ℤ → ℕ → List Cell → List ℕ
bits x y zero cs = []
bits x y (suc n) cs = cond (lives x y cs) 1 0 ∷ bits (ahead x) y n cs

-- the largest count that is answered
abbrev pub capped : ℕ → ℕ
capped n = cond (nat_lt n (2 ^ 64 - 1)) n (2 ^ 64 - 1)

-- memory of so many words can be opened
abbrev pub roomy : ℕ → Bool
roomy n = nat_le (2 ^ 18) n && nat_le n (2 ^ 28)
