use Rattle.std.proofs.Common.{◌≡◌, ℕ, ◌+◌, ◌<◌, ◌&&◌, ◌||◌, eqb, ltb}
use Rattle.leaf.specs.Words.{cell_in}
use Rattle.squaretext.specs.Asked.{drawn_at}
use Rattle.squaretext.proofs.word_at.Given as goal

-- the rows above are read,
abbrev pub invariant-loop-v : goal.invariant-loop-v
invariant-loop-v l = (a b : ℕ) → a < 8 → b < 8 → cell_in l.w a b ≡ (ltb b l.v && drawn_at l.square (l.x + a) (l.y + b))

-- and the cells to the left in this row
abbrev pub invariant-loop-u : goal.invariant-loop-u
invariant-loop-u l =
    (a b : ℕ) → a < 8 → b < 8 → cell_in l.w a b ≡ ((ltb b l.v || (eqb b l.v && ltb a l.u)) && drawn_at l.square (l.x + a) (l.y + b))
