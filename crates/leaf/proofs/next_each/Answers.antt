use Rattle.std.proofs.Common.{◌≡◌, ℕ, ◌+◌, ◌<◌, ◌≤◌, List, length, get_or, set, sym, ◌∙◌, subst, arith, get_or-set_other, get_or-set_same, length-set}
use native.Mathlib.Decide.{dec_lt}
use Rattle.leaf.specs.Words.{NextOf}
use Rattle.leaf.specs.Fates.{life_law}
use Rattle.leaf.proofs.next_each.Goals as goal

-- P ties each word before i to what has become of it; one word more
one_more : (P : ℕ → ℕ → Type 0) (ws xs : List ℕ) (i v : ℕ) → i < length xs →
    ((k : ℕ) → k < i → P (get_or ws k 0) (get_or xs k 0)) → P (get_or ws i 0) v →
    (k : ℕ) → k < i + 1 → P (get_or ws k 0) (get_or (set xs i v) k 0)
one_more P ws xs i v h s p k l =
    elim (dec_lt k i) [
      | yes a ↦ subst (P (get_or ws k 0)) (sym (get_or-set_other xs i k v 0 (λ e. omega arith))) (s k a)
      | no a ↦
          let e : i ≡ k = omega arith in
          subst (λ (j : ℕ). P (get_or ws j 0) (get_or (set xs i v) j 0)) e (subst (P (get_or ws i 0)) (sym (get_or-set_same xs i v 0 h)) p)
    ]

-- and the others are as they were
rest : (ws xs : List ℕ) (i v : ℕ) → ((k : ℕ) → i ≤ k → get_or xs k 0 ≡ get_or ws k 0) → (k : ℕ) → i + 1 ≤ k → get_or (set xs i v) k 0 ≡ get_or ws k 0
rest ws xs i v h k l = get_or-set_other xs i k v 0 (λ e. omega arith) ∙ h k (omega arith)

pub loop-w-preserved : goal.loop-w-preserved
loop-w-preserved g c =
    let s = c.loop-w.invariant in
    let p = subst (λ n. NextOf life_law n c.next_of_life.result) (s.2 c.loop-w.w-index (omega arith)) c.next_of_life.ensures in
    (length-set _ _ _ ∙ s.0, one_more (NextOf life_law) _ _ _ _ (omega arith) s.1 p, rest _ _ _ _ s.2)
