-- The bits of a number as flags, and which two numbers make a rule.
use Rattle.std.proofs.Common.{◌≡◌, ℕ, zero, suc, ◌/◌, ◌%◌, ◌^◌, ◌<◌, ◌≤◌, Bool, true, false, cond, not, ◌&&◌, T, eqb, ltb, [], length, sym, refl, ap, ◌∙◌, one-add, arith}
use lib.Bits.{bit_and}
use Rattle.std.proofs.lemmas.Nat.{shr-shr, and_mask}
use Rattle.std.proofs.lemmas.Bool.{lt-ltb}
use Rattle.std.proofs.lemmas.Bool.Decides.{nat_tests}
use Rattle.model.specs.Rules.{nth, flags, nine_flags, rule_of, good_rule, becomes}

pub nth_flags : (k j n : ℕ) → k < j → nth k (flags j n) ≡ eqb (n / 2 ^ k % 2) 1
unfolding nth flags
nth_flags k zero n h = absurd (omega arith)
nth_flags zero (suc j) n h = ap (λ (m : ℕ). eqb (m % 2) 1) (omega arith)
nth_flags (suc k) (suc j) n h =
    nth_flags k j (n / 2) (omega arith) ∙ ap (λ (m : ℕ). eqb (m % 2) 1) (shr-shr n 1 k ∙ ap (λ (m : ℕ). n / 2 ^ m) (one-add k))

pub nine_small : (n : ℕ) → n < 512 → nine_flags n ≡ flags 9 n
nine_small n h = rw lt-ltb

-- what a shift reads of a set is its flag
pub nine_bit : (x n : ℕ) → x < 512 → n ≤ 8 → eqb (bit_and (x / 2 ^ n) 1) 1 ≡ nth n (nine_flags x)
nine_bit x n small eight =
    ap (λ (m : ℕ). eqb m 1) (and_mask (x / 2 ^ n) 1) ∙ sym (ap (nth n) (nine_small x small) ∙ nth_flags n 9 x (omega arith))

tested : (p q : Bool) (b s : ℕ) →
    (eqb (length (cond p (flags 9 b) [])) 9 && eqb (length (cond q (flags 9 s) [])) 9 && not (nth 0 (cond p (flags 9 b) [])))
    ≡ (p && q && not (eqb (b % 2) 1))
unfolding nth flags
tested true true b s = refl
tested true false b s = refl
tested false true b s = refl
tested false false b s = refl

pub good_is : (b s : ℕ) → good_rule (rule_of b s) ≡ (ltb b 512 && ltb s 512 && not (eqb (b % 2) 1))
good_is b s = tested (ltb b 512) (ltb s 512) b s

pub good_fits : (b s : ℕ) → T (good_rule (rule_of b s)) → (b < 512) × (s < 512)
good_fits b s h = let k = rw good_is at h in grind (arith, nat_tests)

pub fate_is : (b s x n : ℕ) (alive : Bool) → T (good_rule (rule_of b s)) → n ≤ 8 → x ≡ cond alive s b →
    eqb (bit_and (x / 2 ^ n) 1) 1 ≡ becomes (rule_of b s) alive n
fate_is b s x n true good eight e = ap (λ (m : ℕ). eqb (bit_and (m / 2 ^ n) 1) 1) e ∙ nine_bit s n (good_fits b s good).1 eight
fate_is b s x n false good eight e = ap (λ (m : ℕ). eqb (bit_and (m / 2 ^ n) 1) 1) e ∙ nine_bit b n (good_fits b s good).0 eight
