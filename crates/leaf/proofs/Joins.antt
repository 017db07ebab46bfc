-- The cells of words that are put together from parts of others.
use Rattle.std.proofs.Common.{◌≡◌, ℕ, ◌+◌, ◌*◌, ◌/◌, ◌%◌, ◌^◌, ◌<◌, not, ltb, ap, ◌∙◌, arith}
use lib.Bits.{bit_and, bit_or}
use Rattle.std.proofs.lemmas.Bool.{lt-ltb, le-ltb}
use Rattle.leaf.specs.Words.{bit, cell_in}
use Rattle.leaf.proofs.BitLaws.{bit_shr, bit_shl, bit_shl_low, or_left, or_right, and_on, and_off, bit_above, mask_cells}

-- the left and the right half of every row
low : (x y : ℕ) → x < 8 → y < 8 → bit 0x0f0f0f0f0f0f0f0f (8 * y + x) ≡ ltb x 4
unfolding bit
low = mask_cells 0x0f0f0f0f0f0f0f0f (λ x y. ltb x 4) tt

high : (x y : ℕ) → x < 8 → y < 8 → bit 0xf0f0f0f0f0f0f0f0 (8 * y + x) ≡ not (ltb x 4)
unfolding bit
high = mask_cells 0xf0f0f0f0f0f0f0f0 (λ x y. not (ltb x 4)) tt

pub across_left : (l r x y : ℕ) → x < 4 → y < 8 →
    cell_in (bit_or (bit_and (l / 2 ^ 4) 0x0f0f0f0f0f0f0f0f) (bit_and (r * 2 ^ 4 % 2 ^ 64) 0xf0f0f0f0f0f0f0f0)) x y ≡ cell_in l (x + 4) y
unfolding cell_in
across_left l r x y hx hy =
    let k = 8 * y + x in let t = lt-ltb x 4 hx in
    or_left _ _ k (and_off _ _ k (high x y (omega arith) hy ∙ ap not t)) ∙ and_on _ _ k (low x y (omega arith) hy ∙ t) ∙ bit_shr l 4 k ∙ ap (bit l) (omega arith)

pub across_right : (l r x y : ℕ) → x < 4 → y < 8 →
    cell_in (bit_or (bit_and (l / 2 ^ 4) 0x0f0f0f0f0f0f0f0f) (bit_and (r * 2 ^ 4 % 2 ^ 64) 0xf0f0f0f0f0f0f0f0)) (x + 4) y ≡ cell_in r x y
unfolding cell_in
across_right l r x y hx hy =
    let k = 8 * y + (x + 4) in let t = le-ltb (x + 4) 4 (omega arith) in let e : k ≡ 4 + (8 * y + x) = omega arith in
    or_right (bit_and (l / 2 ^ 4) 0x0f0f0f0f0f0f0f0f) _ k (and_off (l / 2 ^ 4) _ k (low (x + 4) y (omega arith) hy ∙ t)) ∙ and_on _ _ k (high (x + 4) y (omega arith) hy ∙ ap not t) ∙
    ap (bit (r * 2 ^ 4 % 2 ^ 64)) e ∙ bit_shl r 4 (8 * y + x) (omega arith)

pub down_upper : (u d x y : ℕ) → x < 8 → y < 4 → cell_in (bit_or (u / 2 ^ 32) (d * 2 ^ 32 % 2 ^ 64)) x y ≡ cell_in u x (y + 4)
unfolding cell_in
down_upper u d x y hx hy =
    let k = 8 * y + x in
    or_left _ _ k (bit_shl_low d 32 k (omega arith) (omega arith)) ∙ bit_shr u 32 k ∙ ap (bit u) (omega arith)

pub down_lower : (u d x y : ℕ) → u < 2 ^ 64 → x < 8 → y < 4 → cell_in (bit_or (u / 2 ^ 32) (d * 2 ^ 32 % 2 ^ 64)) x (y + 4) ≡ cell_in d x y
unfolding cell_in
down_lower u d x y h hx hy =
    let k = 8 * (y + 4) + x in let e : k ≡ 32 + (8 * y + x) = omega arith in let s : u / 2 ^ 32 < 2 ^ 32 = omega arith in
    or_right _ _ k (bit_above (u / 2 ^ 32) 32 k s (omega arith)) ∙ ap (bit (d * 2 ^ 32 % 2 ^ 64)) e ∙ bit_shl d 32 (8 * y + x) (omega arith)

-- the upper and the lower half
above : (x y : ℕ) → x < 8 → y < 8 → bit 0xffffffff (8 * y + x) ≡ ltb y 4
unfolding bit
above = mask_cells 0xffffffff (λ x y. ltb y 4) tt

below : (x y : ℕ) → x < 8 → y < 8 → bit 0xffffffff00000000 (8 * y + x) ≡ not (ltb y 4)
unfolding bit
below = mask_cells 0xffffffff00000000 (λ x y. not (ltb y 4)) tt

abbrev north_of : ℕ → ℕ → ℕ
north_of nw ne = bit_or (bit_and (nw / 2 ^ 18) 0x0f0f0f0f0f0f0f0f) (bit_and (ne / 2 ^ 14) 0xf0f0f0f0f0f0f0f0)

abbrev south_of : ℕ → ℕ → ℕ
south_of sw se = bit_or (bit_and (sw * 2 ^ 14 % 2 ^ 64) 0x0f0f0f0f0f0f0f0f) (bit_and (se * 2 ^ 18 % 2 ^ 64) 0xf0f0f0f0f0f0f0f0)

abbrev joined : ℕ → ℕ → ℕ → ℕ → ℕ
joined nw ne sw se = bit_or (bit_and (north_of nw ne) 0xffffffff) (bit_and (south_of sw se) 0xffffffff00000000)

pub core_nw : (nw ne sw se x y : ℕ) → x < 4 → y < 4 → cell_in (joined nw ne sw se) x y ≡ cell_in nw (x + 2) (y + 2)
unfolding cell_in
core_nw nw ne sw se x y hx hy =
    let k = 8 * y + x in let t = lt-ltb x 4 hx in let s = lt-ltb y 4 hy in
    or_left _ _ k (and_off _ _ k (below x y (omega arith) (omega arith) ∙ ap not s)) ∙ and_on _ _ k (above x y (omega arith) (omega arith) ∙ s) ∙
    or_left _ _ k (and_off _ _ k (high x y (omega arith) (omega arith) ∙ ap not t)) ∙ and_on _ _ k (low x y (omega arith) (omega arith) ∙ t) ∙
    bit_shr nw 18 k ∙ ap (bit nw) (omega arith)

pub core_ne : (nw ne sw se x y : ℕ) → x < 4 → y < 4 → cell_in (joined nw ne sw se) (x + 4) y ≡ cell_in ne (x + 2) (y + 2)
unfolding cell_in
core_ne nw ne sw se x y hx hy =
    let k = 8 * y + (x + 4) in let t = le-ltb (x + 4) 4 (omega arith) in let s = lt-ltb y 4 hy in
    or_left _ _ k (and_off _ _ k (below (x + 4) y (omega arith) (omega arith) ∙ ap not s)) ∙ and_on _ _ k (above (x + 4) y (omega arith) (omega arith) ∙ s) ∙
    or_right (bit_and (nw / 2 ^ 18) 0x0f0f0f0f0f0f0f0f) (bit_and (ne / 2 ^ 14) 0xf0f0f0f0f0f0f0f0) k (and_off (nw / 2 ^ 18) 0x0f0f0f0f0f0f0f0f k (low (x + 4) y (omega arith) (omega arith) ∙ t)) ∙
    and_on (ne / 2 ^ 14) 0xf0f0f0f0f0f0f0f0 k (high (x + 4) y (omega arith) (omega arith) ∙ ap not t) ∙
    bit_shr ne 14 k ∙ ap (bit ne) (omega arith)

pub core_sw : (nw ne sw se x y : ℕ) → x < 4 → y < 4 → cell_in (joined nw ne sw se) x (y + 4) ≡ cell_in sw (x + 2) (y + 2)
unfolding cell_in
core_sw nw ne sw se x y hx hy =
    let k = 8 * (y + 4) + x in let t = lt-ltb x 4 hx in let s = le-ltb (y + 4) 4 (omega arith) in let e : k ≡ 14 + (8 * (y + 2) + (x + 2)) = omega arith in
    or_right (bit_and (north_of nw ne) 0xffffffff) (bit_and (south_of sw se) 0xffffffff00000000) k (and_off (north_of nw ne) 0xffffffff k (above x (y + 4) (omega arith) (omega arith) ∙ s)) ∙
    and_on (south_of sw se) 0xffffffff00000000 k (below x (y + 4) (omega arith) (omega arith) ∙ ap not s) ∙
    or_left _ _ k (and_off _ _ k (high x (y + 4) (omega arith) (omega arith) ∙ ap not t)) ∙ and_on _ _ k (low x (y + 4) (omega arith) (omega arith) ∙ t) ∙
    ap (bit (sw * 2 ^ 14 % 2 ^ 64)) e ∙ bit_shl sw 14 (8 * (y + 2) + (x + 2)) (omega arith)

pub core_se : (nw ne sw se x y : ℕ) → x < 4 → y < 4 → cell_in (joined nw ne sw se) (x + 4) (y + 4) ≡ cell_in se (x + 2) (y + 2)
unfolding cell_in
core_se nw ne sw se x y hx hy =
    let k = 8 * (y + 4) + (x + 4) in let t = le-ltb (x + 4) 4 (omega arith) in let s = le-ltb (y + 4) 4 (omega arith) in let e : k ≡ 18 + (8 * (y + 2) + (x + 2)) = omega arith in
    or_right (bit_and (north_of nw ne) 0xffffffff) (bit_and (south_of sw se) 0xffffffff00000000) k (and_off (north_of nw ne) 0xffffffff k (above (x + 4) (y + 4) (omega arith) (omega arith) ∙ s)) ∙
    and_on (south_of sw se) 0xffffffff00000000 k (below (x + 4) (y + 4) (omega arith) (omega arith) ∙ ap not s) ∙
    or_right (bit_and (sw * 2 ^ 14 % 2 ^ 64) 0x0f0f0f0f0f0f0f0f) (bit_and (se * 2 ^ 18 % 2 ^ 64) 0xf0f0f0f0f0f0f0f0) k (and_off (sw * 2 ^ 14 % 2 ^ 64) 0x0f0f0f0f0f0f0f0f k (low (x + 4) (y + 4) (omega arith) (omega arith) ∙ t)) ∙
    and_on (se * 2 ^ 18 % 2 ^ 64) 0xf0f0f0f0f0f0f0f0 k (high (x + 4) (y + 4) (omega arith) (omega arith) ∙ ap not t) ∙
    ap (bit (se * 2 ^ 18 % 2 ^ 64)) e ∙ bit_shl se 18 (8 * (y + 2) + (x + 2)) (omega arith)
