-- What is right in every plane that shows four words is the leap of their square.
use Rattle.std.proofs.Common.{◌≡◌, ℕ, ◌+◌, ◌<◌, Bool, false, T, pos, ◌+ℤ◌, ap, ◌∙◌, arith}
use borrow.Author.Differences.{ints}
use Rattle.model.specs.Planes.{Plane, always, steps}
use Rattle.model.specs.Rules.{Rule as Law, life}
use Rattle.model.specs.Squares.{Square, Four, build, leap_by, level, state_at, lying}
use Rattle.model.specs.Squares as squares
use Rattle.model.proofs.Squares.{state_nw, state_ne, state_sw, state_se, level_four}
use Rattle.model.proofs.Leaps.{leap_by_right}
use Rattle.model.proofs.Shapes.{squares_same, build_right, lying_in}
use Rattle.leaf.specs.Words.{cell_in}
use Rattle.leaf.specs.Shown.{Shows16, after}
use Rattle.leaf.specs.AsSquares.{word_square, four_words, IsLeap}

word_level : (w : ℕ) → T (level 3 (word_square w))
word_level w = (build_right 3 (cell_in w)).0

word_cell : (w x y : ℕ) → x < 8 → y < 8 → state_at 3 (word_square w) x y ≡ cell_in w x y
word_cell w x y a b = (build_right 3 (cell_in w)).1 x y a b

four_level : (nw ne sw se : ℕ) → T (level 4 (four_words nw ne sw se))
four_level nw ne sw se = level_four 3 _ _ _ _ (word_level nw) (word_level ne) (word_level sw) (word_level se)

-- a plane that shows the square shows its words
shows_words : (nw ne sw se : ℕ) (p : Plane Bool) → squares.Shows 4 (four_words nw ne sw se) p → Shows16 nw ne sw se p
shows_words nw ne sw se p h =
    let a = word_square nw in let b = word_square ne in let c = word_square sw in let d = word_square se in
    record {
      upper_left = λ x y l m. h x y (omega arith) (omega arith) ∙ state_nw 3 a b c d x y l m ∙ word_cell nw x y l m;
      upper_right = λ x y l m. let e : x + 8 ≡ 8 + x = omega arith in ap (λ (u : ℕ). p (pos u) (pos y)) e ∙ h (8 + x) y (omega arith) (omega arith) ∙ state_ne 3 a b c d x y m ∙ word_cell ne x y l m;
      lower_left = λ x y l m. let e : y + 8 ≡ 8 + y = omega arith in ap (λ (u : ℕ). p (pos x) (pos u)) e ∙ h x (8 + y) (omega arith) (omega arith) ∙ state_sw 3 a b c d x y l ∙ word_cell sw x y l m;
      lower_right = λ x y l m. let e : x + 8 ≡ 8 + x = omega arith in let f : y + 8 ≡ 8 + y = omega arith in
          (λ i. p (pos (e i)) (pos (f i))) ∙ h (8 + x) (8 + y) (omega arith) (omega arith) ∙ state_se 3 a b c d x y ∙ word_cell se x y l m;
    }

-- some plane shows a square: the square itself with nothing around it
shown : (k : ℕ) (s : Square Bool) → squares.Shows k s (lying false k s (pos 0) (pos 0))
shown k s x y a b =
    let e : pos x ≡ pos 0 +ℤ pos x = omega (arith, ints) in let f : pos y ≡ pos 0 +ℤ pos y = omega (arith, ints) in
    (λ i. lying false k s (pos 0) (pos 0) (e i) (f i)) ∙ lying_in false k s (pos 0) (pos 0) x y a b

pub is_leap : (law : Law) (nw ne sw se n r : ℕ) → ((p : Plane Bool) → Shows16 nw ne sw se p → (x y : ℕ) → x < 8 → y < 8 → cell_in r x y ≡ after law n p (pos (x + 4)) (pos (y + 4))) →
    IsLeap law nw ne sw se n r
is_leap law nw ne sw se n r h j l e =
    let s = four_words nw ne sw se in let σ = always (life law) in let p = lying false 4 s (pos 0) (pos 0) in let q = shown 4 s in
    let m = leap_by_right σ j 2 s l (four_level nw ne sw se) in
    squares_same 3 (word_square r) (leap_by σ j 2 s) (word_level r) m.0
    (λ x y a b.
    let ex : x + 4 ≡ 4 + x = omega arith in let ey : y + 4 ≡ 4 + y = omega arith in
    word_cell r x y a b ∙ h p (shows_words nw ne sw se p q) x y a b ∙ (λ i. steps σ (e i) p (pos (ex i)) (pos (ey i))) ∙ m.1 p q x y a b)
