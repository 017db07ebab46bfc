-- What the operations of words do to each bit.
use Rattle.std.proofs.Common.{◌≡◌, ℕ, zero, suc, ◌+◌, ◌-◌, ◌*◌, ◌/◌, ◌%◌, ◌^◌, ◌<◌, ◌≤◌, Bool, true, false, cond, not, ◌&&◌, ◌||◌, T, eqb, sym, refl, ap, ◌∙◌, subst, mod-lt, mod-eq_of_lt, zero-lt-suc, mul_assoc, arith, pow_mono, pow-add, shr-shr}
use native.Mathlib.Nat.{div-eq_of_lt}
use native.Mathlib.Decide.{dec_lt}
use lib.Bits.{bit_and, bit_or, bit_xor, and_shr, or_shr, xor_shr, and_mod, or_mod, xor_mod, and_mask, xor_add_and}
use lib.Pow.{shl-shr, field, mod-pow-add, low}
use Rattle.model.specs.Rules.{as_one}
use Rattle.model.proofs.Order.{and_l, and_r}
use Rattle.leaf.specs.Words.{bit}

two_pos : 0 < 2
two_pos = zero-lt-suc 1

digit_and : (m n : ℕ) → m < 2 → n < 2 → eqb (bit_and m n) 1 ≡ (eqb m 1 && eqb n 1)
digit_and zero n h k = refl
digit_and (suc zero) zero h k = refl
digit_and (suc zero) (suc zero) h k = refl
digit_and (suc zero) (suc (suc n)) h k = absurd (omega arith)
digit_and (suc (suc m)) n h k = absurd (omega arith)

digit_or : (m n : ℕ) → m < 2 → n < 2 → eqb (bit_or m n) 1 ≡ (eqb m 1 || eqb n 1)
digit_or zero n h k = refl
digit_or (suc zero) zero h k = refl
digit_or (suc zero) (suc zero) h k = refl
digit_or (suc zero) (suc (suc n)) h k = absurd (omega arith)
digit_or (suc (suc m)) n h k = absurd (omega arith)

-- true where the two differ
abbrev pub either : Bool → Bool → Bool
either a b = cond a (not b) b

digit_xor : (m n : ℕ) → m < 2 → n < 2 → eqb (bit_xor m n) 1 ≡ either (eqb m 1) (eqb n 1)
digit_xor zero n h k = refl
digit_xor (suc zero) zero h k = refl
digit_xor (suc zero) (suc zero) h k = refl
digit_xor (suc zero) (suc (suc n)) h k = absurd (omega arith)
digit_xor (suc (suc m)) n h k = absurd (omega arith)

pub bit_of_and : (a b k : ℕ) → bit (bit_and a b) k ≡ (bit a k && bit b k)
unfolding bit
bit_of_and a b k =
    ap (λ (m : ℕ). eqb (m % 2) 1) (and_shr a b k) ∙ ap (λ (m : ℕ). eqb m 1) (and_mod (a / 2 ^ k) (b / 2 ^ k) 1)
    ∙ digit_and (a / 2 ^ k % 2) (b / 2 ^ k % 2) (mod-lt (a / 2 ^ k) two_pos) (mod-lt (b / 2 ^ k) two_pos)

pub bit_of_or : (a b k : ℕ) → bit (bit_or a b) k ≡ (bit a k || bit b k)
unfolding bit
bit_of_or a b k =
    ap (λ (m : ℕ). eqb (m % 2) 1) (or_shr a b k) ∙ ap (λ (m : ℕ). eqb m 1) (or_mod (a / 2 ^ k) (b / 2 ^ k) 1)
    ∙ digit_or (a / 2 ^ k % 2) (b / 2 ^ k % 2) (mod-lt (a / 2 ^ k) two_pos) (mod-lt (b / 2 ^ k) two_pos)

pub bit_of_xor : (a b k : ℕ) → bit (bit_xor a b) k ≡ either (bit a k) (bit b k)
unfolding bit
bit_of_xor a b k =
    ap (λ (m : ℕ). eqb (m % 2) 1) (xor_shr a b k) ∙ ap (λ (m : ℕ). eqb m 1) (xor_mod (a / 2 ^ k) (b / 2 ^ k) 1)
    ∙ digit_xor (a / 2 ^ k % 2) (b / 2 ^ k % 2) (mod-lt (a / 2 ^ k) two_pos) (mod-lt (b / 2 ^ k) two_pos)

-- `a >> j`
pub bit_shr : (a j k : ℕ) → bit (a / 2 ^ j) k ≡ bit a (j + k)
unfolding bit
bit_shr a j k = ap (λ (m : ℕ). eqb (m % 2) 1) (shr-shr a j k)

-- the bits below m are those of the number modulo 2 ^ m
pub bit_mod : (a m k : ℕ) → k < m → bit (a % 2 ^ m) k ≡ bit a k
unfolding bit
bit_mod a m k h =
    let e : (m - k) + k ≡ m = omega arith in let f : (m - k - 1) + 1 ≡ m - k = omega arith in
    ap (λ (n : ℕ). eqb (a % 2 ^ n / 2 ^ k % 2) 1) (sym e) ∙ ap (λ (n : ℕ). eqb (n % 2) 1) (field a (m - k) k) ∙
    ap (λ (n : ℕ). eqb (a / 2 ^ k % 2 ^ n % 2) 1) (sym f) ∙
    ap (λ (n : ℕ). eqb n 1) (ap (λ (n : ℕ). n % 2) (mod-pow-add (a / 2 ^ k) (m - k - 1) 1) ∙ low (a / 2 ^ k / 2 % 2 ^ (m - k - 1)) 1 (mod-lt (a / 2 ^ k) two_pos))

shl_high : (a j k : ℕ) → bit (a * 2 ^ j) (j + k) ≡ bit a k
shl_high a j k = sym (bit_shr (a * 2 ^ j) j k) ∙ ap (λ (m : ℕ). bit m k) (shl-shr a j)

shl_low : (a j k : ℕ) → k < j → bit (a * 2 ^ j) k ≡ false
unfolding bit
shl_low a j k h =
    let e : j ≡ (j - k - 1) + 1 + k = omega arith in
    ap (λ (m : ℕ). eqb (m % 2) 1) (ap (λ (m : ℕ). m / 2 ^ k) (ap (λ (i : ℕ). a * 2 ^ i) e ∙ ap (λ (m : ℕ). a * m) (pow-add 2 (j - k - 1 + 1) k) ∙ sym (mul_assoc a (2 ^ (j - k - 1 + 1)) (2 ^ k))) ∙ shl-shr (a * 2 ^ (j - k - 1 + 1)) k) ∙
    ap (λ (m : ℕ). eqb (a * m % 2) 1) (pow-add 2 (j - k - 1) 1) ∙ ap (λ (m : ℕ). eqb (m % 2) 1) (sym (mul_assoc a (2 ^ (j - k - 1)) 2)) ∙ even (a * 2 ^ (j - k - 1))
  where
    even : (m : ℕ) → eqb (m * 2 % 2) 1 ≡ false
    even m = let z : m * 2 % 2 ≡ 0 = omega arith in ap (λ (n : ℕ). eqb n 1) z

-- `a << j` in 64 bits
pub bit_shl : (a j k : ℕ) → j + k < 64 → bit (a * 2 ^ j % 2 ^ 64) (j + k) ≡ bit a k
bit_shl a j k h = bit_mod (a * 2 ^ j) 64 (j + k) h ∙ shl_high a j k

pub bit_shl_low : (a j k : ℕ) → k < j → k < 64 → bit (a * 2 ^ j % 2 ^ 64) k ≡ false
bit_shl_low a j k h l = bit_mod (a * 2 ^ j) 64 k l ∙ shl_low a j k h

-- nothing stands above a number's length
pub bit_above : (a j k : ℕ) → a < 2 ^ j → j ≤ k → bit a k ≡ false
unfolding bit
bit_above a j k h l =
    let p : 2 ^ j ≤ 2 ^ k = pow_mono l in let q : a < 2 ^ k = omega arith in
    ap (λ (m : ℕ). eqb (m % 2) 1) (div-eq_of_lt q)

-- what a computation shows of every number below n
abbrev pub all_below : ℕ → (ℕ → Bool) → Bool
all_below zero p = true
all_below (suc n) p = p n && all_below n p

pub all_at : (n : ℕ) (p : ℕ → Bool) → T (all_below n p) → (k : ℕ) → k < n → T (p k)
all_at zero p t k h = absurd (omega arith)
all_at (suc n) p t k h =
    elim (dec_lt k n) [
      | yes l ↦ all_at n p (and_r (p n) (all_below n p) t) k l
      | no l ↦ let e : n ≡ k = omega arith in subst (λ (m : ℕ). T (p m)) e (and_l (p n) (all_below n p) t)
    ]

abbrev pub same : Bool → Bool → Bool
same a b = cond a b (not b)

pub same_out : (a b : Bool) → T (same a b) → a ≡ b
same_out true true t = refl
same_out true false t = absurd t
same_out false true t = absurd t
same_out false false t = refl

-- the cells of a word that is written out
pub mask_cells : (m : ℕ) (f : ℕ → ℕ → Bool) → T (all_below 8 (λ y. all_below 8 (λ x. same (bit m (8 * y + x)) (f x y)))) →
    (x y : ℕ) → x < 8 → y < 8 → bit m (8 * y + x) ≡ f x y
mask_cells m f t x y hx hy =
    same_out _ _ (all_at 8 (λ x. same (bit m (8 * y + x)) (f x y)) (all_at 8 (λ y. all_below 8 (λ x. same (bit m (8 * y + x)) (f x y))) t y hy) x hx)

full : (k : ℕ) → k < 64 → bit (2 ^ 64 - 1) k ≡ true
unfolding bit
full k h = same_out _ _ (all_at 64 (λ k. same (bit (2 ^ 64 - 1) k) true) tt k h)

-- `!a`
pub bit_not : (a k : ℕ) → a < 2 ^ 64 → k < 64 → bit (2 ^ 64 - 1 - a) k ≡ not (bit a k)
bit_not a k h l =
    let e : bit_and a (2 ^ 64 - 1) ≡ a = and_mask a 64 ∙ mod-eq_of_lt h in let s = xor_add_and a (2 ^ 64 - 1) in
    let f : 2 ^ 64 - 1 - a ≡ bit_xor a (2 ^ 64 - 1) = omega arith in
    ap (λ (m : ℕ). bit m k) f ∙ bit_of_xor a (2 ^ 64 - 1) k ∙ ap (either (bit a k)) (full k l) ∙ flip (bit a k)
  where
    flip : (b : Bool) → either b true ≡ not b
    flip true = refl
    flip false = refl

pub or_left : (a b k : ℕ) → bit b k ≡ false → bit (bit_or a b) k ≡ bit a k
or_left a b k e = bit_of_or a b k ∙ ap (λ (t : Bool). bit a k || t) e ∙ idle (bit a k)
  where
    idle : (t : Bool) → (t || false) ≡ t
    idle true = refl
    idle false = refl

pub or_right : (a b k : ℕ) → bit a k ≡ false → bit (bit_or a b) k ≡ bit b k
or_right a b k e = bit_of_or a b k ∙ ap (λ (t : Bool). t || bit b k) e

pub and_on : (a m k : ℕ) → bit m k ≡ true → bit (bit_and a m) k ≡ bit a k
and_on a m k e = bit_of_and a m k ∙ ap (λ (t : Bool). bit a k && t) e ∙ idle (bit a k)
  where
    idle : (t : Bool) → (t && true) ≡ t
    idle true = refl
    idle false = refl

pub and_off : (a m k : ℕ) → bit m k ≡ false → bit (bit_and a m) k ≡ false
and_off a m k e = bit_of_and a m k ∙ ap (λ (t : Bool). bit a k && t) e ∙ none (bit a k)
  where
    none : (t : Bool) → (t && false) ≡ false
    none true = refl
    none false = refl

-- a bit as a digit
pub bit_digit : (a k : ℕ) → as_one (bit a k) ≡ a / 2 ^ k % 2
unfolding bit
bit_digit a k = digit (a / 2 ^ k % 2) (mod-lt (a / 2 ^ k) two_pos)
  where
    digit : (m : ℕ) → m < 2 → as_one (eqb m 1) ≡ m
    digit zero h = refl
    digit (suc zero) h = refl
    digit (suc (suc m)) h = absurd (omega arith)
