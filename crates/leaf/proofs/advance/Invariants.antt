use Rattle.std.proofs.Common.{ℕ, ◌<◌, get_or}
use Rattle.model.specs.Rules.{Rule as Law}
use Rattle.leaf.specs.Fates.{Suits}
use Rattle.leaf.specs.Shown.{Later}
use Rattle.leaf.proofs.advance.Given as goal

abbrev pub invariant-loop : goal.invariant-loop
invariant-loop o l = (r : Law) → Suits r l.way → (i : ℕ) → i < o.row.N → Later r l.counter (get_or l.initial.now i 0) (get_or l.now i 0)
