-- What is written in parts is written as a whole, and how long a decimal is.
use Rattle.std.proofs.Common.{◌≡◌, ℕ, suc, ◌+◌, ◌-◌, ◌^◌, ◌<◌, ◌≤◌, true, false, List, [], ◌∷◌, ◌++◌, length, take, drop, set, ℤ, pos, negsuc, nat_abs, decimal, sym, refl, ap, ◌∙◌, subst, append_assoc, arith, length-append, w64, SFits, to_z, of_z}
use lib.Signed.{lt_z, mag}
use Rattle.std.proofs.lemmas.Fmt.{length-decimal-le}
use Rattle.std.proofs.lemmas.List.{take_more_set, drop-set-lt, drop-drop}
use Rattle.std.proofs.lemmas.Slice.{take-put_mid, drop-put_mid}
use Rattle.std.proofs.lemmas.Int.{to_z-of_z}
use Rattle.std.proofs.lemmas.Bool.{ltb-true, true≢false}
use Rattle.std.specs.Fmt.{signed_decimal as signed_text}
use borrow.Rule.Slice.PartMut.{put_mid}
use Rattle.answers.specs.Wrote.{Wrote}

drop_same : (q r : ℕ) (xs ys : List ℕ) → r ≤ q → drop r xs ≡ drop r ys → drop q xs ≡ drop q ys
drop_same q r xs ys h e =
    let more : r + (q - r) ≡ q = omega arith in
    ap (λ (k : ℕ). drop k xs) (sym more) ∙ sym (drop-drop (q - r) r xs) ∙ ap (drop (q - r)) e ∙ drop-drop (q - r) r ys ∙ ap (λ (k : ℕ). drop k ys) more

pub wrote_both : {xs ys zs : List ℕ} {p q r : ℕ} {us vs : List ℕ} → Wrote xs ys p q us → Wrote ys zs q r vs → Wrote xs zs p r (us ++ vs)
wrote_both {xs} {ys} {zs} {p} {q} {r} {us} {vs} f g =
    record {
      long = simp length-append (omega arith);
      front = g.front ∙ ap (λ (l : List ℕ). l ++ vs) f.front ∙ append_assoc (take p xs) us vs;
      rest = g.rest ∙ drop_same r q ys xs (omega arith) f.rest;
    }

pub wrote_byte : (xs : List ℕ) (at b : ℕ) → at < length xs → Wrote xs (set xs at b) at (at + 1) (b ∷ [])
wrote_byte xs at b h = record { long = refl; front = take_more_set xs at b h; rest = drop-set-lt (at + 1) xs at b (omega arith) }

pub wrote_as : {xs ys : List ℕ} {p q : ℕ} {us vs : List ℕ} → us ≡ vs → Wrote xs ys p q us → Wrote xs ys p q vs
wrote_as {xs} {ys} {p} {q} e w = subst (Wrote xs ys p q) e w

pub wrote_part : (xs ys : List ℕ) (at k : ℕ) (bs : List ℕ) → ys ≡ bs → k ≡ length bs → at + length bs ≤ length xs →
    Wrote xs (put_mid at k xs ys) at (at + length bs) bs
wrote_part xs ys at k bs e h room =
    let long : length ys ≡ length bs = ap length e in
    record {
      long = refl;
      front = take-put_mid at k xs ys (at + length bs) (omega arith) (omega arith) ∙ ap (λ (l : List ℕ). take at xs ++ l) e;
      rest = drop-put_mid at k xs ys (at + length bs) (omega arith) (omega arith) (omega arith);
    }

-- how long numbers of 64 bits are at most, with a sign and without
pub decimal_short : (n : ℕ) → n < 2 ^ 64 → length (decimal n) ≤ 20
decimal_short n h = length-decimal-le 20 n (omega arith) (omega arith) h

pub below_long : (n : ℕ) → n ≤ 2 ^ 63 → length (decimal n) ≤ 19
below_long n h = length-decimal-le 19 n (omega arith) (omega arith) (omega arith)

pub signed_short : (z : ℤ) → mag z < 2 ^ 63 → length (signed_text z) ≤ 20
signed_short (pos n) h = decimal_short n (omega arith)
signed_short (negsuc n) h = let d = below_long (suc n) (omega arith) in omega arith

below_text : (z : ℤ) (n : ℕ) → lt_z z (pos 0) ≡ true → n ≡ nat_abs z → (45 ∷ []) ++ decimal n ≡ signed_text z
below_text (pos k) n t e = absurd (omega (arith, ltb-true k 0 t))
below_text (negsuc k) n t e = ap (λ (m : ℕ). 45 ∷ decimal m) e

above_text : (z : ℤ) (n : ℕ) → lt_z z (pos 0) ≡ false → n ≡ nat_abs z → decimal n ≡ signed_text z
above_text (pos k) n t e = ap decimal e
above_text (negsuc k) n t e = absurd (true≢false t)

pub minus_text : (z : ℤ) (n : ℕ) → SFits w64 z → lt_z (to_z w64 (of_z w64 z)) (pos 0) ≡ true → n ≡ nat_abs (to_z w64 (of_z w64 z)) →
    (45 ∷ []) ++ decimal n ≡ signed_text z
minus_text z n f t e = let same = to_z-of_z w64 z f in below_text z n (rw same at t) (rw same at e)

pub plain_text : (z : ℤ) (n : ℕ) → SFits w64 z → lt_z (to_z w64 (of_z w64 z)) (pos 0) ≡ false → n ≡ nat_abs (to_z w64 (of_z w64 z)) →
    decimal n ≡ signed_text z
plain_text z n f t e = let same = to_z-of_z w64 z f in above_text z n (rw same at t) (rw same at e)
