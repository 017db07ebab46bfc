-- Bits that are added and chosen, place by place.
use Rattle.std.proofs.Common.{◌≡◌, ℕ, ◌+◌, ◌-◌, ◌*◌, ◌/◌, ◌%◌, ◌^◌, ◌<◌, ◌≤◌, Bool, true, false, cond, not, ◌&&◌, ◌||◌, sym, refl, ap, ◌∙◌, arith}
use lib.Bits.{bit_and, bit_or, bit_xor}
use Rattle.model.specs.Rules.{Rule as Law, nth, flags, as_one, tally, becomes}
use Rattle.std.proofs.lemmas.Bool.Decides.{nat_tests}
use Rattle.leaf.specs.Words.{bit, digit, cell_in, inner, neighbours_in}
use Rattle.leaf.specs.Fates.{full, life_law}
use Rattle.leaf.proofs.BitLaws.{bit_of_and, bit_of_or, bit_of_xor, bit_not, bit_above, bit_shr, bit_shl, either, mask_cells}

keep : (p : Bool) → (p && true) ≡ p
keep true = refl
keep false = refl

drop : (p : Bool) → (p && false) ≡ false
drop true = refl
drop false = refl

half_sum : (p q : Bool) → as_one p + as_one q ≡ as_one (either p q) + 2 * as_one (p && q)
half_sum true true = refl
half_sum true false = refl
half_sum false true = refl
half_sum false false = refl

full_sum : (p q r : Bool) → as_one p + as_one q + as_one r ≡ as_one (either (either p q) r) + 2 * as_one ((p && q) || (either p q && r))
full_sum true true true = refl
full_sum true true false = refl
full_sum true false true = refl
full_sum true false false = refl
full_sum false true true = refl
full_sum false true false = refl
full_sum false false true = refl
full_sum false false false = refl

pub two_added : (a b k : ℕ) → digit a k + digit b k ≡ digit (bit_xor a b) k + 2 * digit (bit_and a b) k
two_added a b k = half_sum (bit a k) (bit b k) ∙ (λ i. as_one (sym (bit_of_xor a b k) i) + 2 * as_one (sym (bit_of_and a b k) i))

pub three_added : (a b c k : ℕ) →
    digit a k + digit b k + digit c k ≡ digit (bit_xor (bit_xor a b) c) k + 2 * digit (bit_or (bit_and a b) (bit_and (bit_xor a b) c)) k
three_added a b c k =
    let x = bit_of_xor a b k in
    let low = bit_of_xor (bit_xor a b) c k ∙ ap (λ (t : Bool). either t (bit c k)) x in
    let high =
    bit_of_or (bit_and a b) (bit_and (bit_xor a b) c) k ∙
    (λ i. bit_of_and a b k i || (bit_of_and (bit_xor a b) c k ∙ ap (λ (t : Bool). t && bit c k) x) i) in
    full_sum (bit a k) (bit b k) (bit c k) ∙ (λ i. as_one (sym low i) + 2 * as_one (sym high i))

pub chosen : (w y n k : ℕ) → bit (bit_xor n (bit_and w (bit_xor y n))) k ≡ cond (bit w k) (bit y k) (bit n k)
chosen w y n k =
    bit_of_xor n (bit_and w (bit_xor y n)) k ∙ ap (either (bit n k)) (bit_of_and w (bit_xor y n) k ∙ ap (λ (t : Bool). bit w k && t) (bit_of_xor y n k)) ∙
    mux (bit w k) (bit y k) (bit n k)
  where
    mux : (p q r : Bool) → either r (p && either q r) ≡ cond p q r
    mux true true true = refl
    mux true true false = refl
    mux true false true = refl
    mux true false false = refl
    mux false q true = refl
    mux false q false = refl

-- ---- the neighbours, by shifts

shifted_back : (w x y d u v : ℕ) → 8 * v + u + d ≡ 8 * y + x → x < 8 → y < 8 → bit (w * 2 ^ d % 2 ^ 64) (8 * y + x) ≡ cell_in w u v
unfolding cell_in
shifted_back w x y d u v e hx hy =
    let f : 8 * y + x ≡ d + (8 * v + u) = omega arith in ap (bit (w * 2 ^ d % 2 ^ 64)) f ∙ bit_shl w d (8 * v + u) (omega arith)

shifted_on : (w x y d u v : ℕ) → d + (8 * y + x) ≡ 8 * v + u → bit (w / 2 ^ d) (8 * y + x) ≡ cell_in w u v
unfolding cell_in
shifted_on w x y d u v e = bit_shr w d (8 * y + x) ∙ ap (bit w) e

-- three cells of a row
row_at : (w x y : ℕ) → 0 < x → x < 7 → y < 8 →
    digit (w * 2 ^ 1 % 2 ^ 64) (8 * y + x) + digit (w / 2 ^ 1) (8 * y + x) + digit w (8 * y + x) ≡
    as_one (cell_in w (x - 1) y) + as_one (cell_in w (x + 1) y) + as_one (cell_in w x y)
unfolding cell_in
row_at w x y hx kx hy =
    let west = shifted_back w x y 1 (x - 1) y (omega arith) (omega arith) (omega arith) in
    let east = shifted_on w x y 1 (x + 1) y (omega arith) in
    λ i. as_one (west i) + as_one (east i) + digit w (8 * y + x)

-- the eight neighbours: two beside, and the sums of three of the rows above and below
pub around : (w low high x y : ℕ) → 0 < x → x < 7 → 0 < y → y < 7 →
    ((k : ℕ) → digit (w * 2 ^ 1 % 2 ^ 64) k + digit (w / 2 ^ 1) k + digit w k ≡ digit low k + 2 * digit high k) →
    let k = 8 * y + x in
    neighbours_in w x y ≡
    digit (low * 2 ^ 8 % 2 ^ 64) k + 2 * digit (high * 2 ^ 8 % 2 ^ 64) k + (digit (w * 2 ^ 1 % 2 ^ 64) k + digit (w / 2 ^ 1) k) +
    (digit (low / 2 ^ 8) k + 2 * digit (high / 2 ^ 8) k)
unfolding cell_in
around w low high x y hx kx hy ky rows =
    let above : (v : ℕ) → bit (v * 2 ^ 8 % 2 ^ 64) (8 * y + x) ≡ cell_in v x (y - 1) = λ v. shifted_back v x y 8 x (y - 1) (omega arith) (omega arith) (omega arith) in
    let below : (v : ℕ) → bit (v / 2 ^ 8) (8 * y + x) ≡ cell_in v x (y + 1) = λ v. shifted_on v x y 8 x (y + 1) (omega arith) in
    let a = sym (rows (8 * (y - 1) + x)) ∙ row_at w x (y - 1) hx kx (omega arith) in
    let b = sym (rows (8 * (y + 1) + x)) ∙ row_at w x (y + 1) hx kx (omega arith) in
    let west = ap as_one (shifted_back w x y 1 (x - 1) y (omega arith) (omega arith) (omega arith)) in
    let east = ap as_one (shifted_on w x y 1 (x + 1) y (omega arith)) in
    let al = ap as_one (above low) in let ah = ap as_one (above high) in let bl = ap as_one (below low) in let bh = ap as_one (below high) in
    omega arith

-- ---- the rule

full_bit : (b : Bool) (k : ℕ) → k < 64 → bit (full b) k ≡ b
full_bit true k h = bit_not 0 k (omega arith) h ∙ ap not (bit_above 0 0 k (omega arith) (omega arith))
full_bit false k h = bit_above 0 0 k (omega arith) (omega arith)

pub fate_word : (r : Law) (w n dead alive made k : ℕ) → dead ≡ full (becomes r false n) → alive ≡ full (becomes r true n) → k < 64 →
    bit made k ≡ cond (bit w k) (bit alive k) (bit dead k) → bit made k ≡ becomes r (bit w k) n
fate_word r w n dead alive made k d a h e =
    e ∙ (λ i. cond (bit w k) (bit (a i) k) (bit (d i) k)) ∙ (λ i. cond (bit w k) (full_bit (becomes r true n) k h i) (full_bit (becomes r false n) k h i)) ∙ split (bit w k)
  where
    split : (p : Bool) → cond p (becomes r true n) (becomes r false n) ≡ becomes r p n
    split true = refl
    split false = refl

-- the bits of a count choose what the count gives
by_count : (g : ℕ → Bool) (n : ℕ) (o t f e : Bool) → n ≤ 8 → n ≡ as_one o + 2 * as_one t + 4 * as_one f + 8 * as_one e →
    cond e (g 8) (cond f (cond t (cond o (g 7) (g 6)) (cond o (g 5) (g 4))) (cond t (cond o (g 3) (g 2)) (cond o (g 1) (g 0)))) ≡ g n
by_count g n false false false false h s = ap g (omega arith)
by_count g n true false false false h s = ap g (omega arith)
by_count g n false true false false h s = ap g (omega arith)
by_count g n true true false false h s = ap g (omega arith)
by_count g n false false true false h s = ap g (omega arith)
by_count g n true false true false h s = ap g (omega arith)
by_count g n false true true false h s = ap g (omega arith)
by_count g n true true true false h s = ap g (omega arith)
by_count g n false false false true h s = ap g (omega arith)
by_count g n true false false true h s = absurd (omega arith)
by_count g n false true false true h s = absurd (omega arith)
by_count g n true true false true h s = absurd (omega arith)
by_count g n false false true true h s = absurd (omega arith)
by_count g n true false true true h s = absurd (omega arith)
by_count g n false true true true h s = absurd (omega arith)
by_count g n true true true true h s = absurd (omega arith)

-- the same, as the words are chosen in steps
pub in_steps : (g : ℕ → Bool) (n : ℕ) (o t f e f0 f1 f2 f3 f4 f5 f6 f7 f8 zero two four six low high below r : Bool) → n ≤ 8 →
    n ≡ as_one o + 2 * as_one t + 4 * as_one f + 8 * as_one e →
    f0 ≡ g 0 → f1 ≡ g 1 → f2 ≡ g 2 → f3 ≡ g 3 → f4 ≡ g 4 → f5 ≡ g 5 → f6 ≡ g 6 → f7 ≡ g 7 → f8 ≡ g 8 →
    zero ≡ cond o f1 f0 → two ≡ cond o f3 f2 → four ≡ cond o f5 f4 → six ≡ cond o f7 f6 →
    low ≡ cond t two zero → high ≡ cond t six four → below ≡ cond f high low → r ≡ cond e f8 below → r ≡ g n
in_steps g n o t f e f0 f1 f2 f3 f4 f5 f6 f7 f8 zero two four six low high below r h s e0 e1 e2 e3 e4 e5 e6 e7 e8 z w q x l u b k =
    let lower : low ≡ cond t (cond o (g 3) (g 2)) (cond o (g 1) (g 0)) = l ∙ (λ i. cond t ((w ∙ (λ j. cond o (e3 j) (e2 j))) i) ((z ∙ (λ j. cond o (e1 j) (e0 j))) i)) in
    let upper : high ≡ cond t (cond o (g 7) (g 6)) (cond o (g 5) (g 4)) = u ∙ (λ i. cond t ((x ∙ (λ j. cond o (e7 j) (e6 j))) i) ((q ∙ (λ j. cond o (e5 j) (e4 j))) i)) in
    k ∙ (λ i. cond e (e8 i) ((b ∙ (λ j. cond f (upper j) (lower j))) i)) ∙ by_count g n o t f e h s

-- Life, by the digits of the count
by_life : (o t f e w : Bool) → as_one o + 2 * as_one t + 4 * as_one f + 8 * as_one e ≤ 8 → let g = becomes life_law w in
    ((t && not f) && (o || w)) ≡ cond e (g 8) (cond f (cond t (cond o (g 7) (g 6)) (cond o (g 5) (g 4))) (cond t (cond o (g 3) (g 2)) (cond o (g 1) (g 0))))
unfolding nth flags
by_life o t f e true h = grind (arith, nat_tests)
by_life o t f e false h = grind (arith, nat_tests)

pub life_bits : (ones twos fours w n k : ℕ) (e : Bool) → fours < 2 ^ 64 → k < 64 → n ≤ 8 →
    n ≡ digit ones k + 2 * digit twos k + 4 * digit fours k + 8 * as_one e →
    bit (bit_and (bit_and twos (2 ^ 64 - 1 - fours)) (bit_or ones w)) k ≡ becomes life_law (bit w k) n
life_bits ones twos fours w n k e h l m s =
    bit_of_and (bit_and twos (2 ^ 64 - 1 - fours)) (bit_or ones w) k ∙
    (λ i. (bit_of_and twos (2 ^ 64 - 1 - fours) k ∙ (λ j. bit twos k && bit_not fours k h l j)) i && bit_of_or ones w k i) ∙
    by_life (bit ones k) (bit twos k) (bit fours k) e (bit w k) (omega arith) ∙
    by_count (becomes life_law (bit w k)) n (bit ones k) (bit twos k) (bit fours k) e m s

one_most : (b : Bool) → as_one b ≤ 1
one_most true = omega arith
one_most false = omega arith

tally_most : (a b c d e f g h : Bool) → tally a b c d e f g h ≤ 8
tally_most a b c d e f g h =
    let a1 = one_most a in let b1 = one_most b in let c1 = one_most c in let d1 = one_most d in
    let e1 = one_most e in let f1 = one_most f in let g1 = one_most g in let h1 = one_most h in
    omega arith

pub neighbours_most : (w x y : ℕ) → neighbours_in w x y ≤ 8
neighbours_most w x y =
    tally_most (cell_in w (x - 1) (y - 1)) (cell_in w x (y - 1)) (cell_in w (x + 1) (y - 1)) (cell_in w (x - 1) y) (cell_in w (x + 1) y)
    (cell_in w (x - 1) (y + 1)) (cell_in w x (y + 1)) (cell_in w (x + 1) (y + 1))

inner_bits : (x y : ℕ) → x < 8 → y < 8 → bit 0x007e7e7e7e7e7e00 (8 * y + x) ≡ inner x y
unfolding bit
inner_bits = mask_cells 0x007e7e7e7e7e7e00 inner tt

inner_in : (x y : ℕ) → inner x y ≡ true → (0 < x) × (x < 7) × (0 < y) × (y < 7)
inner_in x y e = (grind (arith, nat_tests), grind (arith, nat_tests), grind (arith, nat_tests), grind (arith, nat_tests))

-- what is cut to the inner cells
pub inside : (w x y : ℕ) (next : ℕ → ℕ → Bool) → x < 8 → y < 8 → (0 < x → x < 7 → 0 < y → y < 7 → bit w (8 * y + x) ≡ next x y) →
    cell_in (bit_and w 0x007e7e7e7e7e7e00) x y ≡ (inner x y && next x y)
unfolding cell_in
inside w x y next hx hy h =
    bit_of_and w 0x007e7e7e7e7e7e00 (8 * y + x) ∙ ap (λ (t : Bool). bit w (8 * y + x) && t) (inner_bits x y hx hy) ∙ go (inner x y) refl
  where
    go : (t : Bool) → inner x y ≡ t → (bit w (8 * y + x) && t) ≡ (t && next x y)
    go true e =
        let a = inner_in x y e in keep (bit w (8 * y + x)) ∙ h a.0 a.1 a.2 a.3
    go false e = drop (bit w (8 * y + x))
