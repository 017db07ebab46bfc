-- How many cells of a square live: sums over rows and columns, cut at the quarters.
use Rattle.std.proofs.Common.{◌≡◌, ℕ, zero, suc, ◌+◌, ◌^◌, ◌<◌, Bool, true, false, cond, T, List, ◌∷◌, length, ℤ, pos, ◌+ℤ◌, sym, refl, ap, ◌∙◌, arith, length-append}
use borrow.Author.Differences.{ints}
use Rattle.model.specs.Planes.{Plane, ahead}
use Rattle.model.specs.Rules.{as_one}
use Rattle.model.specs.Cells.{Cell, cell_at}
use Rattle.model.specs.Lists.{row_of, rows_of}
use Rattle.model.specs.Squares.{Square, Leaf, Four, level, state_at, lying, living}
use Rattle.model.specs.Promise.{CountRight}
use Rattle.model.proofs.Squares.{state_nw, state_ne, state_sw, state_se, levels}
use Rattle.model.proofs.Shapes.{lying_in}

-- of the first n of f
unfoldable sum : (ℕ → ℕ) → ℕ → ℕ
sum f zero = 0
sum f (suc n) = f 0 + sum (λ i. f (suc i)) n

sum_same : (f g : ℕ → ℕ) (n : ℕ) → ((i : ℕ) → i < n → f i ≡ g i) → sum f n ≡ sum g n
unfolding sum
sum_same f g zero h = refl
sum_same f g (suc n) h =
    let a = h 0 (omega arith) in
    let b = sum_same (λ i. f (suc i)) (λ i. g (suc i)) n (λ i k. h (suc i) (omega arith)) in
    λ m. a m + b m

sum_plus : (f g : ℕ → ℕ) (n : ℕ) → sum (λ i. f i + g i) n ≡ sum f n + sum g n
unfolding sum
sum_plus f g zero = refl
sum_plus f g (suc n) = let h = sum_plus (λ i. f (suc i)) (λ i. g (suc i)) n in omega arith

sum_split : (f : ℕ → ℕ) (m n : ℕ) → sum f (m + n) ≡ sum f m + sum (λ i. f (m + i)) n
unfolding sum
sum_split f zero n =
    let z : (i : ℕ) → i ≡ 0 + i = λ i. omega arith in
    (λ m. sum f (sym (z n) m)) ∙ z (sum f n) ∙ (λ m. 0 + sum (λ i. f (z i m)) n)
sum_split f (suc m) n =
    let z : (i : ℕ) → suc (m + i) ≡ suc m + i = λ i. omega arith in
    let h = sum_split (λ i. f (suc i)) m n in
    let g : sum (λ i. f (suc (m + i))) n ≡ sum (λ i. f (suc m + i)) n = λ k. sum (λ i. f (z i k)) n in
    (λ k. sum f (sym (z n) k)) ∙ omega arith

-- over w columns and h rows
total : (ℕ → ℕ → ℕ) → ℕ → ℕ → ℕ
total f w h = sum (λ y. sum (λ x. f x y) w) h

total_same : (f g : ℕ → ℕ → ℕ) (w h : ℕ) → ((x y : ℕ) → x < w → y < h → f x y ≡ g x y) → total f w h ≡ total g w h
unfolding total
total_same f g w h e = sum_same _ _ h (λ y i. sum_same (λ x. f x y) (λ x. g x y) w (λ x k. e x y k i))

total_across : (f : ℕ → ℕ → ℕ) (m n h : ℕ) → total f (m + n) h ≡ total f m h + total (λ x y. f (m + x) y) n h
unfolding total
total_across f m n h =
    sum_same _ _ h (λ y i. sum_split (λ x. f x y) m n) ∙ sum_plus (λ y. sum (λ x. f x y) m) (λ y. sum (λ x. f (m + x) y) n) h

total_down : (f : ℕ → ℕ → ℕ) (w m n : ℕ) → total f w (m + n) ≡ total f w m + total (λ x y. f x (m + y)) w n
unfolding total
total_down f w m n = sum_split (λ y. sum (λ x. f x y) w) m n

row_length : (p : Plane Bool) (x y : ℤ) (n : ℕ) → length (row_of p x y n) ≡ sum (λ i. as_one (p (x +ℤ pos i) y)) n
unfolding row_of sum
row_length p x y zero = refl
row_length p x y (suc n) =
    let e : (i : ℕ) → ahead x +ℤ pos i ≡ x +ℤ pos (suc i) = λ i. omega (arith, ints) in
    let z : x +ℤ pos 0 ≡ x = omega (arith, ints) in
    taken (p x y) (cell_at x y) (row_of p (ahead x) y n) ∙
    (λ m. as_one (p (sym z m) y) + (row_length p (ahead x) y n ∙ (λ k. sum (λ i. as_one (p (e i k) y)) n)) m)
  where
    taken : (b : Bool) (c : Cell) (cs : List Cell) → length (cond b (c ∷ cs) cs) ≡ as_one b + length cs
    taken true c cs = omega arith
    taken false c cs = omega arith

rows_length : (p : Plane Bool) (x : ℤ) (w : ℕ) (y : ℤ) (n : ℕ) → length (rows_of p x w y n) ≡ total (λ i j. as_one (p (x +ℤ pos i) (y +ℤ pos j))) w n
unfolding rows_of sum total
rows_length p x w y zero = refl
rows_length p x w y (suc n) =
    let e : (j : ℕ) → ahead y +ℤ pos j ≡ y +ℤ pos (suc j) = λ j. omega (arith, ints) in
    let z : y +ℤ pos 0 ≡ y = omega (arith, ints) in
    length-append (row_of p x y w) (rows_of p x w (ahead y) n) ∙
    (λ m. (row_length p x y w ∙ (λ k. sum (λ i. as_one (p (x +ℤ pos i) (sym z k))) w)) m +
    (rows_length p x w (ahead y) n ∙ (λ k. total (λ i j. as_one (p (x +ℤ pos i) (e j k))) w n)) m)

total_living : (k : ℕ) (s : Square Bool) → T (level k s) → total (λ x y. as_one (state_at k s x y)) (2 ^ k) (2 ^ k) ≡ living s
unfolding level state_at living total sum
total_living zero (Leaf b) l = omega arith
total_living zero (Four a b c d) l = absurd l
total_living (suc k) (Leaf b) l = absurd l
total_living (suc k) (Four a b c d) l =
    let f = λ (x y : ℕ). as_one (state_at (suc k) (Four a b c d) x y) in
    let n = 2 ^ k in
    let e : 2 ^ suc k ≡ n + n = omega arith in
    let u = levels k (Four a b c d) l in
    let qa = total_same f _ n n (λ x y h g. ap as_one (state_nw k a b c d x y h g)) ∙ total_living k a u.lnw in
    let qb = total_same (λ x y. f (n + x) y) _ n n (λ x y h g. ap as_one (state_ne k a b c d x y g)) ∙ total_living k b u.lne in
    let qc = total_same (λ x y. f x (n + y)) _ n n (λ x y h g. ap as_one (state_sw k a b c d x y h)) ∙ total_living k c u.lsw in
    let qd = total_same (λ x y. f (n + x) (n + y)) _ n n (λ x y h g. ap as_one (state_se k a b c d x y)) ∙ total_living k d u.lse in
    let upper = total_across f n n n in
    let lower = total_across (λ x y. f x (n + y)) n n n in
    (λ m. total f (e m) (e m)) ∙ total_down f (n + n) n n ∙ omega arith

pub count_right : CountRight
count_right k s a b l =
    rows_length (lying false k s a b) a (2 ^ k) b (2 ^ k) ∙
    total_same _ _ (2 ^ k) (2 ^ k) (λ x y h g. ap as_one (lying_in false k s a b x y h g)) ∙ total_living k s l
