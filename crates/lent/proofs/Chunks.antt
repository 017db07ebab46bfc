-- Words by twos.
use Rattle.std.proofs.Common.{◌≡◌, ℕ, zero, suc, ◌+◌, ◌-◌, ◌*◌, ◌/◌, ◌<◌, ◌≤◌, List, [], ◌∷◌, length, get_or, take, drop, refl, ap, ◌∙◌, arith}
use Rattle.std.proofs.lemmas.List.{get_or-take, get_or-drop}
use lib.ListN.{length-take, length-drop}
use Rattle.std.specs.Simd.{first_chunks}
use Rattle.lent.specs.declared.Stretch.{Stretch}
use Rattle.lent.specs.Entries.{Pairs}

chunk_at : (n : ℕ) (xs : List ℕ) (k : ℕ) (d : List ℕ) → k < n → 2 * n ≤ length xs → get_or (first_chunks 2 n xs) k d ≡ get_or xs (2 * k) 0 ∷ get_or xs (2 * k + 1) 0 ∷ []
chunk_at zero xs k d a b = absurd (omega arith)
chunk_at (suc n) [] k d a b = absurd (omega arith)
chunk_at (suc n) (x ∷ []) k d a b = absurd (omega arith)
chunk_at (suc n) (x ∷ y ∷ xs) zero d a b = refl
chunk_at (suc n) (x ∷ y ∷ xs) (suc k) d a b =
    let e : suc (suc (2 * k)) ≡ 2 * suc k = omega arith in let f : suc (suc (2 * k + 1)) ≡ 2 * suc k + 1 = omega arith in
    chunk_at n xs k d (omega arith) (omega arith) ∙ (λ i. get_or (x ∷ y ∷ xs) (e i) 0 ∷ get_or (x ∷ y ∷ xs) (f i) 0 ∷ [])

-- the words of a stretch
abbrev pub part : List ℕ → Stretch → List ℕ
part m s = take (s.at + 2 * s.len - s.at) (drop s.at m)

pub part_length : (m : List ℕ) (s : Stretch) → s.at + 2 * s.len ≤ length m → length (part m s) ≡ 2 * s.len
part_length m s h =
    let a = length-take (s.at + 2 * s.len - s.at) (drop s.at m) in let b = length-drop s.at m in omega arith

pub part_at : (m : List ℕ) (s : Stretch) (j : ℕ) → j < 2 * s.len → get_or (part m s) j 0 ≡ get_or m (s.at + j) 0
part_at m s j h = get_or-take (s.at + 2 * s.len - s.at) (drop s.at m) j 0 (omega arith) ∙ get_or-drop s.at m j 0

pub pairs_in : (m : List ℕ) (s : Stretch) (r : List (List ℕ)) → s.at + 2 * s.len ≤ length m → r ≡ first_chunks 2 (length (part m s) / 2) (part m s) →
    length r ≡ length (part m s) / 2 → Pairs m s r
pairs_in m s r room e l =
    let long = part_length m s room in
    record {
      all = omega arith;
      each = λ k d h.
          let z : s.at + (2 * k + 1) ≡ s.at + 2 * k + 1 = omega arith in
          let row = part_at m s (2 * k) (omega arith) in let column = part_at m s (2 * k + 1) (omega arith) ∙ ap (λ (u : ℕ). get_or m u 0) z in
          ap (λ (p : List (List ℕ)). get_or p k d) e ∙ chunk_at (length (part m s) / 2) (part m s) k d (omega arith) (omega arith) ∙ (λ i. row i ∷ column i ∷ []);
    }
