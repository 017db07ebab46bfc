-- The farthest coordinate of a list, cell by cell from its end.
use Rattle.std.proofs.Common.{◌≡◌, ℕ, suc, ◌+◌, ◌-◌, ◌<◌, ◌≤◌, max, true, cond, ltb, leb, List, sym, ◌∙◌, arith}
use Rattle.model.specs.declared.Cell.{Cell}
use Rattle.model.specs.World.{size, farthest, reach, edge}
use Rattle.lent.specs.declared.Stretch.{Stretch}
use Rattle.lent.specs.Stretches.{tab, entry, cells_in}
use Rattle.measure.specs.Sizes.{outness}

larger : (a b m : ℕ) → cond (ltb m (cond (ltb a b) b a)) (cond (ltb a b) b a) m ≡ max m (max a b)
larger a b m = grind arith

pub far_none : (f : ℕ → Cell) (i n : ℕ) → i ≡ n → 0 ≡ farthest (tab f i (n - i))
unfolding tab farthest
far_none f i n e = let z : 0 ≡ n - i = omega arith in λ t. farthest (tab f i (z t))

far_join : (f : ℕ → Cell) (i n : ℕ) → 0 < i → i ≤ n → farthest (tab f (i - 1) (n - (i - 1))) ≡ max (farthest (tab f i (n - i))) (outness (f (i - 1)))
unfolding tab farthest
far_join f i n l h =
    let z : n - (i - 1) ≡ suc (n - i) = omega arith in let w : suc (i - 1) ≡ i = omega arith in
    (λ t. farthest (tab f (i - 1) (z t))) ∙ larger (size (f (i - 1)).x) (size (f (i - 1)).y) (farthest (tab f (suc (i - 1)) (n - i))) ∙
    (λ t. max (farthest (tab f (w t) (n - i))) (outness (f (i - 1))))

-- one cell more in front
pub far_more : (f : ℕ → Cell) (i n most here r : ℕ) → 0 < i → i ≤ n → most ≡ farthest (tab f i (n - i)) → here ≡ outness (f (i - 1)) → r ≡ max most here →
    r ≡ farthest (tab f (i - 1) (n - (i - 1)))
far_more f i n most here r l h e d k = k ∙ (λ t. max (e t) (d t)) ∙ sym (far_join f i n l h)

pub far_all : (f : ℕ → Cell) (i n : ℕ) → i ≤ 0 → farthest (tab f i (n - i)) ≡ farthest (tab f 0 n)
far_all f i n h = let z : i ≡ 0 = omega arith in let w : n - i ≡ n = omega arith in λ t. farthest (tab f (z t) (w t))

pub reach_empty : (m : List ℕ) (s : Stretch) (n : ℕ) → s.len ≡ 0 → true ≡ reach n (cells_in m s)
unfolding tab reach
reach_empty m s n e = λ t. reach n (tab (entry m s.at) 0 (sym e t))

pub reach_leb : (m : List ℕ) (s : Stretch) (n out : ℕ) → 0 < s.len → out ≡ farthest (cells_in m s) → leb (out + n) edge ≡ reach n (cells_in m s)
unfolding tab reach
reach_leb m s n out h e =
    let z : s.len ≡ suc (s.len - 1) = omega arith in
    (λ t. leb (e t + n) edge) ∙ (λ t. leb (farthest (tab (entry m s.at) 0 (z t)) + n) edge) ∙ (λ t. reach n (tab (entry m s.at) 0 (sym z t)))
