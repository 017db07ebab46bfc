use Rattle.std.proofs.Common.{◌≡◌, ℕ, ◌<◌, ◌&&◌, ◌||◌, eqb, ltb}
use Rattle.rules.specs.Laws.{law}
use Rattle.leaf.specs.Words.{cell_in, inner, next_in}
use Rattle.leaf.proofs.generation_plain.Given as goal

-- the inner cells of the rows above are made,
abbrev pub invariant-loop-y : goal.invariant-loop-y
invariant-loop-y l = (u v : ℕ) → u < 8 → v < 8 → cell_in l.next u v ≡ (ltb v l.y && (inner u v && next_in (law l.rule) l.w u v))

-- and those to the left in this row
abbrev pub invariant-loop-x : goal.invariant-loop-x
invariant-loop-x l =
    (u v : ℕ) → u < 8 → v < 8 →
    cell_in l.next u v ≡ ((ltb v l.y || (eqb v l.y && ltb u l.x)) && (inner u v && next_in (law l.rule) l.w u v))
