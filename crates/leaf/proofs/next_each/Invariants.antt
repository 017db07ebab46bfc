use Rattle.std.proofs.Common.{◌≡◌, ℕ, ◌<◌, ◌≤◌, length, get_or}
use Rattle.model.specs.Rules.{Rule as Law}
use Rattle.leaf.specs.Words.{NextOf}
use Rattle.leaf.specs.Fates.{life_law, Fated}
use Rattle.leaf.proofs.next_each.Given as goal

abbrev pub invariant-loop-w : goal.invariant-loop-w
invariant-loop-w o l =
    (length l.w-items ≡ o.row.N) ×
    ((k : ℕ) → k < l.w-index → NextOf life_law (get_or l.fn.words k 0) (get_or l.w-items k 0)) ×
    ((k : ℕ) → l.w-index ≤ k → get_or l.w-items k 0 ≡ get_or l.fn.words k 0)

abbrev pub invariant-loop-w-2 : goal.invariant-loop-w-2
invariant-loop-w-2 o l =
    (length l.w-items ≡ o.row.N) ×
    ((r : Law) → Fated r l.fates → (k : ℕ) → k < l.w-index → NextOf r (get_or l.fn.words k 0) (get_or l.w-items k 0)) ×
    ((k : ℕ) → l.w-index ≤ k → get_or l.w-items k 0 ≡ get_or l.fn.words k 0)
