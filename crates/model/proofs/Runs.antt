-- The list of a square's living cells, and that a leap of a square with enough room is a run of its list.
use Rattle.std.proofs.Common.{◌≡◌, ℕ, suc, ◌+◌, ◌^◌, ◌<◌, ◌≤◌, Bool, true, false, cond, ◌&&◌, T, List, ℤ, pos, ◌+ℤ◌, neg_ℤ, ◌≤ℤ◌, ◌<ℤ◌, sym, ap, ◌∙◌, subst, arith, pow_mono}
use borrow.Author.Differences.{ints}
use Rattle.model.specs.Planes.{always, steps}
use Rattle.model.specs.Rules.{Rule, life}
use Rattle.model.specs.Cells.{Cell, in_order, lives}
use Rattle.model.specs.Lists.{nexts}
use Rattle.model.specs.Squares.{Square, level, state_at, leap_by, padded, within, lying, cells_of}
use Rattle.model.specs.Promise.{Near, CellsRight, PaddedCells, RunRight, RunPadded}
use Rattle.model.proofs.Order.{bool_same, and_l, and_r, lists_same}
use Rattle.model.proofs.Lists.{Of, rows_in, rows_has, rows_order, nexts_order, nexts_lives}
use Rattle.model.proofs.Reach.{comes_from}
use Rattle.model.proofs.Alike.{moved_alike}
use Rattle.model.proofs.Leaps.{leap_by_right}
use Rattle.model.proofs.Shapes.{within_of, of_within, lying_in, lying_same}
use Rattle.model.proofs.Padded.{padded_right}

living : (b c : Bool) → T (cond b c false) → T b
living true c t = tt
living false c t = absurd t

-- what lives in a plane with a square, and nothing around it, lies in the square
pub lying_within : (k : ℕ) (s : Square Bool) (a b x y : ℤ) → T (lying false k s a b x y) → T (within k a x) × T (within k b y)
lying_within k s a b x y t =
    let h = living (within k a x && within k b y) _ t in (and_l (within k a x) (within k b y) h, and_r (within k a x) (within k b y) h)

pub cells_order : (k : ℕ) (s : Square Bool) (a b : ℤ) → T (in_order (cells_of k s a b))
cells_order k s a b = rows_order (lying false k s a b) a (2 ^ k) b (2 ^ k)

pub cells_lives : (k : ℕ) (s : Square Bool) (a b x y : ℤ) → lives x y (cells_of k s a b) ≡ lying false k s a b x y
cells_lives k s a b x y =
    bool_same (lives x y (cells_of k s a b)) (lying false k s a b x y)
    (λ t. (rows_in (lying false k s a b) a (2 ^ k) b (2 ^ k) x y t).2)
    (λ t.
    let h = lying_within k s a b x y t in
    rows_has (lying false k s a b) a (2 ^ k) b (2 ^ k) x y (within_of k a x h.0) (within_of k b y h.1) t)

pub cells_right : CellsRight
cells_right k s a b = (cells_order k s a b, cells_lives k s a b, λ x y h g. cells_lives k s a b (a +ℤ pos x) (b +ℤ pos y) ∙ lying_in false k s a b x y h g)

pub padded_cells : PaddedCells
padded_cells k s a b l =
    lists_same (cells_of (suc (suc k)) (padded false k s) a b) (cells_of (suc k) s (a +ℤ pos (2 ^ k)) (b +ℤ pos (2 ^ k)))
    (cells_order (suc (suc k)) (padded false k s) a b) (cells_order (suc k) s (a +ℤ pos (2 ^ k)) (b +ℤ pos (2 ^ k)))
    (λ x y.
    cells_lives (suc (suc k)) (padded false k s) a b x y ∙ (padded_right false k s l).1 a b x y ∙
    sym (cells_lives (suc k) s (a +ℤ pos (2 ^ k)) (b +ℤ pos (2 ^ k)) x y))

-- what comes from a cell that has room lies in the middle
room_near : (m n d : ℕ) (a x u : ℤ) → (a +ℤ pos (m + d)) ≤ℤ u → (u +ℤ pos d) <ℤ (a +ℤ pos (m + n)) → Near d x u → Of (a +ℤ pos m) n x
room_near m n d a x u h k g = (grind (arith, ints), grind (arith, ints))

none : (b : Bool) → (T b → ⊥) → b ≡ false
none b f = bool_same b false (λ t. absurd (f t)) (λ z. absurd z)

-- the middle of a square at a, b, wherever that is
leap_lying : (r : Rule) (j n : ℕ) (s : Square Bool) (a b : ℤ) → j ≤ n → T (level (suc (suc n)) s) → (u v : ℕ) → u < 2 ^ suc n → v < 2 ^ suc n →
    steps (always (life r)) (2 ^ j) (lying false (suc (suc n)) s a b) (a +ℤ pos (2 ^ n) +ℤ pos u) (b +ℤ pos (2 ^ n) +ℤ pos v) ≡
    state_at (suc n) (leap_by (always (life r)) j n s) u v
leap_lying r j n s a b h l u v f g =
    let σ = always (life r) in
    let p = lying false (suc (suc n)) s a b in
    let e : (c : ℤ) (w : ℕ) → c +ℤ pos (2 ^ n) +ℤ pos w ≡ pos (2 ^ n + w) +ℤ c = λ c w. omega (arith, ints) in
    let z : (c : ℤ) (w : ℕ) → pos w +ℤ c ≡ c +ℤ pos w = λ c w. omega (arith, ints) in
    (λ m. steps σ (2 ^ j) p (e a u m) (e b v m)) ∙ sym (moved_alike σ a b (2 ^ j) p (pos (2 ^ n + u)) (pos (2 ^ n + v))) ∙
    (leap_by_right σ j n s h l).1 (λ x y. p (x +ℤ a) (y +ℤ b))
    (λ x y i k. (λ m. p (z a x m) (z b y m)) ∙ lying_in false (suc (suc n)) s a b x y i k) u v f g

pub run_right : RunRight
run_right r g j n s a b h l room =
    let σ = always (life r) in
    let p = lying false (suc (suc n)) s a b in
    let A = a +ℤ pos (2 ^ n) in let B = b +ℤ pos (2 ^ n) in
    let cs = cells_of (suc (suc n)) s a b in
    let t = leap_by σ j n s in
    lists_same (nexts r (2 ^ j) cs) (cells_of (suc n) t A B) (nexts_order r (2 ^ j) cs (cells_order (suc (suc n)) s a b)) (cells_order (suc n) t A B)
    (λ x y.
    nexts_lives r g (2 ^ j) cs x y ∙ (λ i. steps σ (2 ^ j) (λ u v. cells_lives (suc (suc n)) s a b u v i) x y) ∙
    lying_same false (suc n) t A B (steps σ (2 ^ j) p) (leap_lying r j n s a b h l)
    (λ u v away. none (steps σ (2 ^ j) p u v) (λ q.
    let (c, d, k, e, f) = comes_from r g (2 ^ j) p u v q in
    let w = room c d (subst T (sym (cells_lives (suc (suc n)) s a b c d)) k) in
    away (of_within (suc n) A u (room_near (2 ^ n) (2 ^ suc n) (2 ^ j) a u c w.0.0 w.0.1 e))
    (of_within (suc n) B v (room_near (2 ^ n) (2 ^ suc n) (2 ^ j) b v d w.1.0 w.1.1 f)))) x y ∙
    sym (cells_lives (suc n) t A B x y))

room_padded : (m N Q d : ℕ) (a x : ℤ) → N ≡ m + m → Q ≡ N + N → d ≤ m → Of (a +ℤ pos m) N x →
    ((a +ℤ neg_ℤ (pos N) +ℤ pos (N + d)) ≤ℤ x) × ((x +ℤ pos d) <ℤ (a +ℤ neg_ℤ (pos N) +ℤ pos (N + Q)))
room_padded m N Q d a x e f h g = (omega (arith, ints), omega (arith, ints))

pub run_padded : RunPadded
run_padded r g j k s a b h l =
    let σ = always (life r) in
    let s1 = padded false k s in let s2 = padded false (suc k) s1 in
    let N = 2 ^ suc k in
    let a' = a +ℤ neg_ℤ (pos N) in let b' = b +ℤ neg_ℤ (pos N) in
    let e : (c : ℤ) → c +ℤ neg_ℤ (pos N) +ℤ pos N ≡ c = λ c. omega (arith, ints) in
    let l1 = (padded_right false k s l).0 in
    let cells = padded_cells (suc k) s1 a' b' l1 ∙ (λ m. cells_of (suc (suc k)) s1 (e a m) (e b m)) ∙ padded_cells k s a b l in
    let p = pow_mono h in
    let n1 : 2 ^ suc k ≡ 2 ^ k + 2 ^ k = omega arith in
    let n2 : 2 ^ suc (suc k) ≡ N + N = omega arith in
    ap (nexts r (2 ^ j)) (sym cells) ∙
    run_right r g j (suc k) s2 a' b' (omega arith) (padded_right false (suc k) s1 l1).0 (λ x y t.
    let w = lying_within (suc k) s (a +ℤ pos (2 ^ k)) (b +ℤ pos (2 ^ k)) x y
    (subst T (cells_lives (suc k) s (a +ℤ pos (2 ^ k)) (b +ℤ pos (2 ^ k)) x y) (subst (λ (cs : List Cell). T (lives x y cs)) cells t)) in (
      room_padded (2 ^ k) N (2 ^ suc (suc k)) (2 ^ j) a x n1 n2 p (within_of (suc k) (a +ℤ pos (2 ^ k)) x w.0),
      room_padded (2 ^ k) N (2 ^ suc (suc k)) (2 ^ j) b y n1 n2 p (within_of (suc k) (b +ℤ pos (2 ^ k)) y w.1),
    )) ∙
    (λ m. cells_of (suc (suc k)) (leap_by σ j (suc k) s2) (e a m) (e b m))
