use Rattle.std.proofs.Common.{rules, ◌≡◌, ◌≢◌, ℕ, ◌<◌, ◌≤◌, Option, Some, None, sym, subst, arith}
use Rattle.std.proofs.lemmas.Iterator.{first_from_Range}
use Rattle.std.specs.Option.{MatchOption, unwrap_or}
use Rattle.lent.specs.Lists.{words_of, stretch_of}
use Rattle.lent.specs.Stretches.{row_at}
use Rattle.generation.proofs.scan.row_end.Goals as goal

-- the first one of another row, or else the end
first_other : (f : ℕ → ℕ) (row at n end u : ℕ) (r : Option ℕ) → at ≤ n → end ≡ n → u ≡ unwrap_or r end →
    MatchOption r ((k : ℕ) → at ≤ k → k < end → f k ≡ row) (λ i. (at ≤ i) × (i < end) × (f i ≢ row) × ((k : ℕ) → at ≤ k → k < i → f k ≡ row)) →
    (at ≤ u) × (u ≤ n) × ((k : ℕ) → at ≤ k → k < u → f k ≡ row) × (u < n → f u ≢ row)
first_other f row at n end u None l e q h =
    let z : u ≡ end = q in (omega arith, omega arith, λ k a b. h k a (omega arith), λ b. absurd (omega arith))
first_other f row at n end u (Some i) l e q h =
    let z : u ≡ i = q in let h0 = h.0 in let h1 = h.1 in (omega arith, omega arith, λ k a b. h.3 k a (omega arith), λ b. subst (λ (v : ℕ). f v ≢ row) (sym z) h.2)

pub returns : goal.returns
returns c =
    let m = words_of c.args.list in let s = stretch_of c.args.list in
    let k =
    first_other (row_at m s.at) c.args.row c.args.at s.len c.len-end.result c.unwrap_or.result c.find.result c.requires c.len-end.ensures c.unwrap_or.ensures
    (first_from_Range _ _ _ c.find.result (λ i. row_at m s.at i ≢ c.args.row) (λ i. row_at m s.at i ≡ c.args.row) c.find.ensures.ran (λ x q k. search rules) (λ x q k. search rules)) in
    record { low = k.0; high = k.1; inside = k.2; ends = k.3 }
