-- A square that is padded lies in the same plane as before.
use Rattle.std.proofs.Common.{◌≡◌, ℕ, suc, ◌+◌, ◌^◌, ◌<◌, T, ℤ, pos, ◌+ℤ◌, sym, refl, ◌∙◌, subst, arith}
use borrow.Author.Differences.{ints}
use Rattle.model.specs.Planes.{Plane}
use Rattle.model.specs.Squares.{Square, level, plain, padded, within, lying}
use Rattle.model.specs.Promise.{PaddedRight}
use Rattle.model.proofs.Lists.{Of}
use Rattle.model.proofs.Squares.{At, move, four, quarters}
use Rattle.model.proofs.Shapes.{plain_at, within_of, of_within, lying_in, lying_out, lying_same}

-- the columns left and right of the middle, and likewise the rows
of_left : (m x : ℕ) (a : ℤ) → x < m → Of (a +ℤ pos m) (m + m) (a +ℤ pos (0 + x)) → ⊥
of_left m x a h g = omega (arith, ints)

of_right : (m x : ℕ) (a : ℤ) → Of (a +ℤ pos m) (m + m) (a +ℤ pos (m + m + m + x)) → ⊥
of_right m x a g = omega (arith, ints)

of_wider : (m : ℕ) (a x : ℤ) → Of (a +ℤ pos m) (m + m) x → Of a (m + m + (m + m)) x
of_wider m a x h = (omega (arith, ints), omega (arith, ints))

twice_pow : (k : ℕ) → 2 ^ suc k ≡ 2 ^ k + 2 ^ k
twice_pow k = omega arith

four_pow : (k : ℕ) → 2 ^ k + 2 ^ k + (2 ^ k + 2 ^ k) ≡ 2 ^ suc (suc k)
four_pow k = omega arith

inner : (k : ℕ) (a x : ℤ) → T (within (suc k) (a +ℤ pos (2 ^ k)) x) → Of (a +ℤ pos (2 ^ k)) (2 ^ k + 2 ^ k) x
inner k a x t = rw twice_pow at (within_of (suc k) (a +ℤ pos (2 ^ k)) x t)

wider : (k : ℕ) (a x : ℤ) → T (within (suc k) (a +ℤ pos (2 ^ k)) x) → T (within (suc (suc k)) a x)
wider k a x t = of_within (suc (suc k)) a x (subst (λ (m : ℕ). Of a m x) (four_pow k) (of_wider (2 ^ k) a x (inner k a x t)))

module _ {S : Type 0} (o : S) (k : ℕ) (s : Square S) (a b : ℤ) where
  -- the plane with the square in the middle of the padded one, whose corner is at a, b, seen from there
  abbrev seen : Plane S
  seen x y = lying o (suc k) s (a +ℤ pos (2 ^ k)) (b +ℤ pos (2 ^ k)) (a +ℤ x) (b +ℤ y)

  seen_left : (j : ℕ) → At k (plain o k) seen 0 j
  seen_left j =
      plain_at o k seen 0 j (λ x y h g.
      lying_out o (suc k) s (a +ℤ pos (2 ^ k)) (b +ℤ pos (2 ^ k)) (a +ℤ pos (0 + x)) (b +ℤ pos (j + y)) (λ t u. of_left (2 ^ k) x a h (inner k a _ t)))

  seen_right : (j : ℕ) → At k (plain o k) seen (2 ^ k + 2 ^ k + 2 ^ k) j
  seen_right j =
      plain_at o k seen (2 ^ k + 2 ^ k + 2 ^ k) j (λ x y h g.
      lying_out o (suc k) s (a +ℤ pos (2 ^ k)) (b +ℤ pos (2 ^ k)) (a +ℤ pos (2 ^ k + 2 ^ k + 2 ^ k + x)) (b +ℤ pos (j + y)) (λ t u. of_right (2 ^ k) x a (inner k a _ t)))

  seen_above : (i : ℕ) → At k (plain o k) seen i 0
  seen_above i =
      plain_at o k seen i 0 (λ x y h g.
      lying_out o (suc k) s (a +ℤ pos (2 ^ k)) (b +ℤ pos (2 ^ k)) (a +ℤ pos (i + x)) (b +ℤ pos (0 + y)) (λ t u. of_left (2 ^ k) y b g (inner k b _ u)))

  seen_below : (i : ℕ) → At k (plain o k) seen i (2 ^ k + 2 ^ k + 2 ^ k)
  seen_below i =
      plain_at o k seen i (2 ^ k + 2 ^ k + 2 ^ k) (λ x y h g.
      lying_out o (suc k) s (a +ℤ pos (2 ^ k)) (b +ℤ pos (2 ^ k)) (a +ℤ pos (i + x)) (b +ℤ pos (2 ^ k + 2 ^ k + 2 ^ k + y)) (λ t u. of_right (2 ^ k) y b (inner k b _ u)))

  seen_middle : T (level (suc k) s) → At (suc k) s seen (2 ^ k) (2 ^ k)
  seen_middle l = record {
    lev = l;
    at = λ x y h g.
        let e : (c : ℤ) (z : ℕ) → c +ℤ pos (2 ^ k + z) ≡ c +ℤ pos (2 ^ k) +ℤ pos z = λ c z. omega (arith, ints) in
        (λ m. lying o (suc k) s (a +ℤ pos (2 ^ k)) (b +ℤ pos (2 ^ k)) (e a x m) (e b y m)) ∙ lying_in o (suc k) s (a +ℤ pos (2 ^ k)) (b +ℤ pos (2 ^ k)) x y h g;
  }

  seen_padded : T (level (suc k) s) → At (suc (suc k)) (padded o k s) seen 0 0
  seen_padded l =
      let q = quarters (seen_middle l) in
      let n0 : 2 ^ k ≡ 0 + 2 ^ k = omega arith in
      let n1 : 2 ^ k + 2 ^ k ≡ 0 + 2 ^ suc k = omega arith in
      let n2 : 2 ^ k + 2 ^ k + 2 ^ k ≡ 0 + 2 ^ suc k + 2 ^ k = omega arith in
      four
      (four (seen_above 0) (seen_above (0 + 2 ^ k)) (seen_left (0 + 2 ^ k)) (move q.qnw n0 n0))
      (four (seen_above (0 + 2 ^ suc k)) (seen_above (0 + 2 ^ suc k + 2 ^ k)) (move q.qne n1 n0) (move (seen_right (0 + 2 ^ k)) n2 refl))
      (four (seen_left (0 + 2 ^ suc k)) (move q.qsw n0 n1) (seen_left (0 + 2 ^ suc k + 2 ^ k)) (move (seen_below (0 + 2 ^ k)) refl n2))
      (four (move q.qse n1 n1) (move (seen_right (0 + 2 ^ suc k)) n2 refl) (move (seen_below (0 + 2 ^ suc k)) refl n2) (move (seen_below (0 + 2 ^ suc k + 2 ^ k)) refl n2))

pub padded_right : {S : Type 0} → PaddedRight S
padded_right o k s l = (
  (seen_padded o k s (pos 0) (pos 0) l).lev,
  λ a b x y.
      sym (lying_same o (suc (suc k)) (padded o k s) a b (lying o (suc k) s (a +ℤ pos (2 ^ k)) (b +ℤ pos (2 ^ k)))
      (λ u v h g.
      let z : (c : ℤ) (w : ℕ) → c +ℤ pos w ≡ c +ℤ pos (0 + w) = λ c w. omega (arith, ints) in
      (λ m. lying o (suc k) s (a +ℤ pos (2 ^ k)) (b +ℤ pos (2 ^ k)) (z a u m) (z b v m)) ∙ (seen_padded o k s a b l).at u v h g)
      (λ u v n. lying_out o (suc k) s (a +ℤ pos (2 ^ k)) (b +ℤ pos (2 ^ k)) u v (λ t w. n (wider k a u t) (wider k b v w))) x y),
)
