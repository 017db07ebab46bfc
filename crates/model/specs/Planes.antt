-- Planes without an edge, cell by cell, over any type of states, and what a local rule makes of them.
use Rattle.std.specs.Prelude.{ℕ, zero, suc, ℤ, pos, negsuc, ◌+ℤ◌}

-- x goes to the right, y goes down
abbrev pub Plane : Type 0 → Type 0
Plane S = ℤ → ℤ → S

abbrev pub back : ℤ → ℤ
back z = z +ℤ negsuc 0

abbrev pub ahead : ℤ → ℤ
ahead z = z +ℤ pos 1

-- the next state of a cell from the nine states around and at it, row by row from the upper left
abbrev pub Local : Type 0 → Type 0
Local S = (nw n ne w c e sw s se : S) → S

abbrev pub step : {S : Type 0} → Local S → Plane S → Plane S
step f p x y =
    f (p (back x) (back y)) (p x (back y)) (p (ahead x) (back y)) (p (back x) y) (p x y) (p (ahead x) y) (p (back x) (ahead y)) (p x (ahead y)) (p (ahead x) (ahead y))

-- the local rule of each generation, counted from now
abbrev pub Schedule : Type 0 → Type 0
Schedule S = ℕ → Local S

abbrev pub always : {S : Type 0} → Local S → Schedule S
always f n = f

unfoldable pub steps : {S : Type 0} → Schedule S → ℕ → Plane S → Plane S
steps σ zero p = p
steps σ (suc n) p = steps (λ t. σ (suc t)) n (step (σ 0) p)
