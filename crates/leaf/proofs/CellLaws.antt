-- The cells of words that are changed, joined and counted.
use Rattle.std.proofs.Common.{◌≡◌, ℕ, zero, suc, ◌+◌, ◌-◌, ◌*◌, ◌/◌, ◌%◌, ◌^◌, ◌<◌, ◌≤◌, Bool, true, false, cond, not, ◌&&◌, ◌||◌, eqb, ltb, leb, sym, refl, ap, ◌∙◌, inl, inr, add-one, arith, pow_pos, pow_mono, shr-shr}
use native.Mathlib.Nat.{div-eq_of_lt}
use native.Mathlib.Decide.{dec_lt}
use lib.Bits.{bit_and, bit_or, and_mask}
use lib.Count.{ones, ones_step}
use Rattle.model.specs.Rules.{as_one}
use Rattle.std.proofs.lemmas.Nat.{one_shl}
use Rattle.std.proofs.lemmas.Bool.{cases_eq, cases_order, eq-eqb, ne_eqb}
use Rattle.std.proofs.lemmas.Bool.Decides.{nat_tests}
use Rattle.leaf.specs.Words.{bit, cell_in, is_at, in_row, sum_below, living_in}
use Rattle.leaf.proofs.BitLaws.{bit_of_and, bit_of_or, bit_shl, bit_shl_low, bit_not, bit_above, bit_digit, all_below, all_at, same, same_out}

-- ---- one cell

pub read_cell : (w x y : ℕ) → eqb (bit_and (w / 2 ^ (8 * y + x)) 1) 1 ≡ cell_in w x y
unfolding bit cell_in
read_cell w x y = ap (λ (m : ℕ). eqb m 1) (and_mask (w / 2 ^ (8 * y + x)) 1)

-- the word 1 << j has one bit
one_bit : (j k : ℕ) → j < 64 → k < 64 → bit (1 * 2 ^ j % 2 ^ 64) k ≡ eqb k j
unfolding bit
one_bit j k hj hk =
    elim (dec_lt k j) [
      | yes l ↦ bit_shl_low 1 j k l hk ∙ sym (ne_eqb k j (λ e. omega arith))
      | no l ↦
          let e : j + (k - j) ≡ k = omega arith in
          ap (λ (i : ℕ). bit (1 * 2 ^ j % 2 ^ 64) i) (sym e) ∙ bit_shl 1 j (k - j) (omega arith) ∙
          elim (cases_eq k j) [
            | inl s ↦ let z : k - j ≡ 0 = omega arith in ap (bit 1) z ∙ sym (eq-eqb k j s)
            | inr n ↦ bit_above 1 1 (k - j) (omega arith) (omega arith) ∙ sym (ne_eqb k j n)
          ]
    ]

place_is : (x y u v : ℕ) → x < 8 → u < 8 → eqb (8 * v + u) (8 * y + x) ≡ is_at x y u v
place_is x y u v hx hu = grind (arith, nat_tests)

pub put_living : (w x y u v : ℕ) → x < 8 → y < 8 → u < 8 → v < 8 →
    cell_in (bit_or w (1 * 2 ^ (8 * y + x) % 2 ^ 64)) u v ≡ cond (is_at x y u v) true (cell_in w u v)
unfolding cell_in
put_living w x y u v hx hy hu hv =
    bit_of_or w _ (8 * v + u) ∙ ap (λ (t : Bool). bit w (8 * v + u) || t) (one_bit (8 * y + x) (8 * v + u) (omega arith) (omega arith) ∙ place_is x y u v hx hu) ∙
    or_cond (bit w (8 * v + u)) (is_at x y u v)
  where
    or_cond : (a b : Bool) → (a || b) ≡ cond b true a
    or_cond true true = refl
    or_cond true false = refl
    or_cond false true = refl
    or_cond false false = refl

pub put_dead : (w x y u v : ℕ) → x < 8 → y < 8 → u < 8 → v < 8 →
    cell_in (bit_and w (2 ^ 64 - 1 - 1 * 2 ^ (8 * y + x) % 2 ^ 64)) u v ≡ cond (is_at x y u v) false (cell_in w u v)
unfolding cell_in
put_dead w x y u v hx hy hu hv =
    let e = one_shl (8 * y + x) 64 (omega arith) in
    bit_of_and w _ (8 * v + u) ∙
    ap (λ (t : Bool). bit w (8 * v + u) && t) (bit_not (1 * 2 ^ (8 * y + x) % 2 ^ 64) (8 * v + u) (omega arith) (omega arith) ∙
    ap not (one_bit (8 * y + x) (8 * v + u) (omega arith) (omega arith) ∙ place_is x y u v hx hu)) ∙
    and_cond (bit w (8 * v + u)) (is_at x y u v)
  where
    and_cond : (a b : Bool) → (a && not b) ≡ cond b false a
    and_cond true true = refl
    and_cond true false = refl
    and_cond false true = refl
    and_cond false false = refl

-- ---- a run of cells in a row

run_cells : (a b u : ℕ) → a < 9 → b < 9 → u < 8 → bit (2 ^ b - 2 ^ a) u ≡ (leb a u && ltb u b)
unfolding bit
run_cells a b u ha hb hu =
    let f : ℕ → ℕ → ℕ → Bool = λ a b u. same (bit (2 ^ b - 2 ^ a) u) (leb a u && ltb u b) in
    same_out _ _ (all_at 8 (f a b) (all_at 9 (λ b. all_below 8 (f a b)) (all_at 9 (λ a. all_below 9 (λ b. all_below 8 (f a b))) tt a ha) b hb) u hu)

-- a run is below 2 ^ 8, for which some bit is to be left
run_byte : (a b : ℕ) → b ≤ 8 → 2 ^ b - 2 ^ a < 2 ^ 8
run_byte a b h = let p : 2 ^ b ≤ 2 ^ 8 = pow_mono h in let q = pow_pos a in omega arith

-- a byte put into row y
row_bits : (m y u v : ℕ) → m < 2 ^ 8 → y < 8 → u < 8 → v < 8 → bit (m * 2 ^ (8 * y) % 2 ^ 64) (8 * v + u) ≡ (eqb v y && bit m u)
row_bits m y u v h hy hu hv =
    elim (cases_order v y) [
      | inl e ↦
          let s : 8 * v + u ≡ 8 * y + u = omega arith in
          ap (bit (m * 2 ^ (8 * y) % 2 ^ 64)) s ∙ bit_shl m (8 * y) u (omega arith) ∙ sym (ap (λ (t : Bool). t && bit m u) (eq-eqb v y e))
      | inr o ↦
          let n : eqb v y ≡ false = ne_eqb v y (λ e. elim o [ inl l ↦ omega arith | inr l ↦ omega arith ]) in
          elim o [
            | inl l ↦ bit_shl_low m (8 * y) (8 * v + u) (omega arith) (omega arith) ∙ sym (ap (λ (t : Bool). t && bit m u) n)
            | inr l ↦
                let s : 8 * v + u ≡ 8 * y + (8 * (v - y) + u) = omega arith in
                ap (bit (m * 2 ^ (8 * y) % 2 ^ 64)) s ∙ bit_shl m (8 * y) (8 * (v - y) + u) (omega arith) ∙
                bit_above m 8 (8 * (v - y) + u) h (omega arith) ∙ sym (ap (λ (t : Bool). t && bit m u) n)
          ]
    ]

pub fill_row : (w y a b u v : ℕ) → y < 8 → b ≤ 8 → a ≤ b → u < 8 → v < 8 →
    cell_in (bit_or w ((1 * 2 ^ b % 2 ^ 64 - 1 * 2 ^ a % 2 ^ 64) * 2 ^ (8 * y) % 2 ^ 64)) u v ≡ (cell_in w u v || in_row y a b u v)
unfolding cell_in
fill_row w y a b u v hy hb ha hu hv =
    let ea = one_shl a 64 (omega arith) in let eb = one_shl b 64 (omega arith) in
    bit_of_or w _ (8 * v + u) ∙
    ap (λ (t : Bool). bit w (8 * v + u) || t)
    ((λ i. bit ((eb i - ea i) * 2 ^ (8 * y) % 2 ^ 64) (8 * v + u)) ∙ row_bits (2 ^ b - 2 ^ a) y u v (run_byte a b hb) hy hu hv ∙
    ap (λ (t : Bool). eqb v y && t) (run_cells a b u (omega arith) (omega arith) hu) ∙ assoc (eqb v y) (leb a u) (ltb u b))
  where
    assoc : (p q r : Bool) → (p && (q && r)) ≡ (p && q && r)
    assoc true true r = refl
    assoc true false r = refl
    assoc false q r = refl

pub run_fits : (a b : ℕ) → a ≤ b → b ≤ 8 → 1 * 2 ^ a % 2 ^ 64 ≤ 1 * 2 ^ b % 2 ^ 64
run_fits a b h k = let ea = one_shl a 64 (omega arith) in let eb = one_shl b 64 (omega arith) in let p : 2 ^ a ≤ 2 ^ b = pow_mono h in omega arith

-- ---- the count

ones_sum : (n w : ℕ) → ones w ≡ sum_below n (λ k. as_one (bit w k)) + ones (w / 2 ^ n)
unfolding sum_below
ones_sum zero w = let e : w ≡ w / 1 = omega arith in ap ones e ∙ omega arith
ones_sum (suc n) w =
    let h = ones_sum n w in let d = bit_digit w n in let s = ones_step (w / 2 ^ n) in let e = ap ones (shr-shr w n 1 ∙ ap (λ (m : ℕ). w / 2 ^ m) (add-one n)) in
    omega arith

sum_rows : (f : ℕ → ℕ) → sum_below 64 f ≡ sum_below 8 (λ y. sum_below 8 (λ x. f (8 * y + x)))
unfolding sum_below
sum_rows f = omega arith

pub ones_living : (w : ℕ) → w < 2 ^ 64 → ones w ≡ living_in w
unfolding cell_in ones
ones_living w h = let e = ap ones (div-eq_of_lt h) in ones_sum 64 w ∙ omega arith ∙ sum_rows (λ k. as_one (bit w k))
