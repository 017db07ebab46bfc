-- Squares of side 2^k, each made of four, over any type of states, and the leap: the middle of a square some generations on.
use Rattle.std.specs.Prelude.{◌≡◌, ℕ, zero, suc, ◌+◌, ◌-◌, ◌^◌, ◌<◌, Bool, true, false, cond, ◌&&◌, List, ℤ, pos, ◌+ℤ◌, neg_ℤ, int_le, int_lt, nat_lt}
use Rattle.model.specs.Planes.{Plane, Local, Schedule}
use Rattle.model.specs.Cells.{Cell}
use Rattle.model.specs.Lists.{rows_of}
use Rattle.model.specs.Rules.{as_one}
use Rattle.model.specs.World.{size}

pub data Square (S : Type 0) : Type 0 where
  Leaf : S → Square S
  Four : (nw ne sw se : Square S) → Square S

-- the square has side 2^k, all the way down
unfoldable pub level : {S : Type 0} → ℕ → Square S → Bool
level zero (Leaf a) = true
level zero (Four a b c d) = false
level (suc k) (Leaf a) = false
level (suc k) (Four a b c d) = level k a && (level k b && (level k c && level k d))

abbrev pub nw : {S : Type 0} → Square S → Square S
nw (Leaf a) = Leaf a
nw (Four a b c d) = a

abbrev pub ne : {S : Type 0} → Square S → Square S
ne (Leaf a) = Leaf a
ne (Four a b c d) = b

abbrev pub sw : {S : Type 0} → Square S → Square S
sw (Leaf a) = Leaf a
sw (Four a b c d) = c

abbrev pub se : {S : Type 0} → Square S → Square S
se (Leaf a) = Leaf a
se (Four a b c d) = d

-- the state at x to the right and y down in a square of level k
unfoldable pub state_at : {S : Type 0} → ℕ → Square S → ℕ → ℕ → S
state_at k (Leaf a) x y = a
state_at zero (Four a b c d) x y = state_at zero a x y
state_at (suc k) (Four a b c d) x y =
    cond (nat_lt y (2 ^ k)) (cond (nat_lt x (2 ^ k)) (state_at k a x y) (state_at k b (x - 2 ^ k) y))
    (cond (nat_lt x (2 ^ k)) (state_at k c x (y - 2 ^ k)) (state_at k d (x - 2 ^ k) (y - 2 ^ k)))

-- the square of level k with the state o at x to the right and y down
unfoldable pub with_state : {S : Type 0} → ℕ → Square S → ℕ → ℕ → S → Square S
with_state k (Leaf a) x y o = Leaf o
with_state zero (Four a b c d) x y o = Four a b c d
with_state (suc k) (Four a b c d) x y o =
    cond (nat_lt y (2 ^ k)) (cond (nat_lt x (2 ^ k)) (Four (with_state k a x y o) b c d) (Four a (with_state k b (x - 2 ^ k) y o) c d))
    (cond (nat_lt x (2 ^ k)) (Four a b (with_state k c x (y - 2 ^ k) o) d) (Four a b c (with_state k d (x - 2 ^ k) (y - 2 ^ k) o)))

-- the only state of a square of level 0
abbrev pub core : {S : Type 0} → Square S → S
core s = state_at 0 s 0 0

-- between two that lie side by side
abbrev pub beside : {S : Type 0} → Square S → Square S → Square S
beside a b = Four (ne a) (nw b) (se a) (sw b)

-- between two that lie one above the other
abbrev pub below : {S : Type 0} → Square S → Square S → Square S
below a b = Four (sw a) (se a) (nw b) (ne b)

-- the inner half of a square
abbrev pub middle : {S : Type 0} → Square S → Square S
middle s = Four (se (nw s)) (sw (ne s)) (ne (sw s)) (nw (se s))

-- the cell in the middle of three rows of three cells, a generation on
abbrev pub nine : {S : Type 0} → Local S → (a b c d e f g h i : Square S) → Square S
nine l a b c d e f g h i = Leaf (l (core a) (core b) (core c) (core d) (core e) (core f) (core g) (core h) (core i))

-- the two by two cells in the middle of four by four, a generation on
abbrev pub small : {S : Type 0} → Local S → Square S → Square S
small l s =
    let a = nw s in let b = ne s in let c = sw s in let d = se s in
    Four (nine l (nw a) (ne a) (nw b) (sw a) (se a) (sw b) (nw c) (ne c) (nw d)) (nine l (ne a) (nw b) (ne b) (se a) (sw b) (se b) (ne c) (nw d) (ne d))
    (nine l (sw a) (se a) (sw b) (nw c) (ne c) (nw d) (sw c) (se c) (sw d)) (nine l (se a) (sw b) (se b) (ne c) (nw d) (ne d) (se c) (sw d) (se d))

-- the schedule from its m-th generation on
abbrev pub later : {S : Type 0} → ℕ → Schedule S → Schedule S
later m σ t = σ (m + t)

-- The leap: the middle of a square of level n + 2, 2^n generations on. The nine that overlap go half the way, and the four that they make the other half.
unfoldable pub leap : {S : Type 0} → Schedule S → ℕ → Square S → Square S
leap σ zero s = small (σ 0) s
leap σ (suc n) s =
    let a = leap σ n (nw s) in let b = leap σ n (beside (nw s) (ne s)) in let c = leap σ n (ne s) in
    let d = leap σ n (below (nw s) (sw s)) in let e = leap σ n (middle s) in let f = leap σ n (below (ne s) (se s)) in
    let g = leap σ n (sw s) in let h = leap σ n (beside (sw s) (se s)) in let i = leap σ n (se s) in
    let τ = later (2 ^ n) σ in
    Four (leap τ n (Four a b d e)) (leap τ n (Four b c e f)) (leap τ n (Four d e g h)) (leap τ n (Four e f h i))

-- The leap by a smaller power: the middle of a square of level n + 2, 2^j generations on, j at most n. Of the four that the nine make, the middles.
unfoldable pub leap_by : {S : Type 0} → Schedule S → (j n : ℕ) → Square S → Square S
leap_by σ j zero s = leap σ zero s
leap_by σ j (suc n) s =
    let a = leap_by σ j n (nw s) in let b = leap_by σ j n (beside (nw s) (ne s)) in let c = leap_by σ j n (ne s) in
    let d = leap_by σ j n (below (nw s) (sw s)) in let e = leap_by σ j n (middle s) in let f = leap_by σ j n (below (ne s) (se s)) in
    let g = leap_by σ j n (sw s) in let h = leap_by σ j n (beside (sw s) (se s)) in let i = leap_by σ j n (se s) in
    cond (nat_lt j (suc n)) (Four (middle (Four a b d e)) (middle (Four b c e f)) (middle (Four d e g h)) (middle (Four e f h i))) (leap σ (suc n) s)

-- The square t is the middle of the square s of level n + 2 after 2^j generations, as it can be shown in three ways.
pub data Leaps {S : Type 0} : Schedule S → (j n : ℕ) → (s t : Square S) → Type 0 where
  -- four by four cells, by the rule
  ByRule : {σ : Schedule S} {s : Square S} → Leaps σ 0 0 s (small (σ 0) s)
  -- nine go half the way, and the four that they make the other half
  ByFours : {σ : Schedule S} {j n : ℕ} {s a b c d e f g h i w x y z : Square S} →
      Leaps σ j n (nw s) a → Leaps σ j n (beside (nw s) (ne s)) b → Leaps σ j n (ne s) c →
      Leaps σ j n (below (nw s) (sw s)) d → Leaps σ j n (middle s) e → Leaps σ j n (below (ne s) (se s)) f →
      Leaps σ j n (sw s) g → Leaps σ j n (beside (sw s) (se s)) h → Leaps σ j n (se s) i →
      Leaps (later (2 ^ j) σ) j n (Four a b d e) w → Leaps (later (2 ^ j) σ) j n (Four b c e f) x →
      Leaps (later (2 ^ j) σ) j n (Four d e g h) y → Leaps (later (2 ^ j) σ) j n (Four e f h i) z →
      Leaps σ (suc j) (suc n) s (Four w x y z)
  -- nine go the whole way, and the middles of the four that they make stay
  ByMiddles : {σ : Schedule S} {j n : ℕ} {s a b c d e f g h i : Square S} →
      Leaps σ j n (nw s) a → Leaps σ j n (beside (nw s) (ne s)) b → Leaps σ j n (ne s) c →
      Leaps σ j n (below (nw s) (sw s)) d → Leaps σ j n (middle s) e → Leaps σ j n (below (ne s) (se s)) f →
      Leaps σ j n (sw s) g → Leaps σ j n (beside (sw s) (se s)) h → Leaps σ j n (se s) i →
      Leaps σ j (suc n) s (Four (middle (Four a b d e)) (middle (Four b c e f)) (middle (Four d e g h)) (middle (Four e f h i)))

-- the plane agrees with the square of level k whose upper left corner is at 0, 0
abbrev pub Shows : {S : Type 0} → ℕ → Square S → Plane S → Type 0
Shows k s p = (x y : ℕ) → x < 2 ^ k → y < 2 ^ k → p (pos x) (pos y) ≡ state_at k s x y

-- the square of level k with these states
unfoldable pub build : {S : Type 0} → ℕ → (ℕ → ℕ → S) → Square S
build zero f = Leaf (f 0 0)
build (suc k) f =
    Four (build k f) (build k (λ x y. f (2 ^ k + x) y)) (build k (λ x y. f x (2 ^ k + y))) (build k (λ x y. f (2 ^ k + x) (2 ^ k + y)))

-- the square of level k whose cells all have the state o
unfoldable pub plain : {S : Type 0} → S → ℕ → Square S
plain o zero = Leaf o
plain o (suc k) = Four (plain o k) (plain o k) (plain o k) (plain o k)

-- the square of level k + 2 whose middle is the square s of level k + 1, with the state o around it
abbrev pub padded : {S : Type 0} → S → ℕ → Square S → Square S
padded o k s =
    let e = plain o k in
    Four (Four e e e (nw s)) (Four e e (ne s) e) (Four e (sw s) e e) (Four (se s) e e e)

-- x is one of the 2^k numbers from a on
abbrev pub within : ℕ → ℤ → ℤ → Bool
within k a x = int_le a x && int_lt x (a +ℤ pos (2 ^ k))

-- the plane with the square s of level k, its upper left corner at a, b, and the state o around it
abbrev pub lying : {S : Type 0} → S → ℕ → Square S → ℤ → ℤ → Plane S
lying o k s a b x y = cond (within k a x && within k b y) (state_at k s (size (x +ℤ neg_ℤ a)) (size (y +ℤ neg_ℤ b))) o

-- how many cells of a square live
unfoldable pub living : Square Bool → ℕ
living (Leaf b) = as_one b
living (Four a b c d) = living a + (living b + (living c + living d))

-- the living cells of the square s of level k, its upper left corner at a, b
abbrev pub cells_of : ℕ → Square Bool → ℤ → ℤ → List Cell
cells_of k s a b = rows_of (lying false k s a b) a (2 ^ k) b (2 ^ k)
