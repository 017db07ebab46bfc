-- Words that show a plane: one generation on, and put together.
use Rattle.std.proofs.Common.{◌≡◌, ℕ, suc, ◌+◌, ◌-◌, ◌<◌, ◌≤◌, Bool, true, ◌&&◌, ℤ, pos, sym, refl, ap, ◌∙◌, add-one, arith}
use mathlib.Core.Path.{transport}
use native.Mathlib.Decide.{dec_lt}
use borrow.Author.Differences.{ints}
use Rattle.model.specs.Planes.{Plane, back, ahead, always, step, steps}
use Rattle.model.specs.Rules.{Rule as Law, life}
use Rattle.model.proofs.Time.{steps_add}
use Rattle.std.proofs.lemmas.Bool.Decides.{nat_tests}
use Rattle.leaf.specs.Words.{cell_in, inner, next_in}
use Rattle.leaf.specs.Shown.{Shows, Shows16, Later, after}

-- ---- one generation

left_of : (i x : ℕ) → 0 < x → pos (i + (x - 1)) ≡ back (pos (i + x))
left_of i x h = omega (arith, ints)

right_of : (i x : ℕ) → pos (i + (x + 1)) ≡ ahead (pos (i + x))
right_of i x = omega (arith, ints)

is_inner : (x y : ℕ) → 0 < x → x < 7 → 0 < y → y < 7 → inner x y ≡ true
is_inner x y a b c d = grind (arith, nat_tests)

-- a cell of the word is the plane's at that place
seen : {w : ℕ} {p : Plane Bool} {i j a b : ℕ} → Shows w p i j a b → (x y : ℕ) → a ≤ x → x < b → a ≤ y → y < b → {u v : ℤ} → pos (i + x) ≡ u → pos (j + y) ≡ v →
    cell_in w x y ≡ p u v
seen {p = p} s x y lx hx ly hy e f = s.at x y lx hx ly hy ∙ (λ k. p (e k) (f k))

pub next_shows : (r : Law) (w next : ℕ) (p : Plane Bool) (i j a b : ℕ) → b ≤ 8 →
    ((x y : ℕ) → x < 8 → y < 8 → cell_in next x y ≡ (inner x y && next_in r w x y)) → Shows w p i j a b → Shows next (step (life r) p) i j (suc a) (b - 1)
next_shows r w next p i j a b small made s =
    record {
      at =
          λ x y lx hx ly hy.
          let l : a ≤ x - 1 = omega arith in let l1 : x - 1 < b = omega arith in let m : a ≤ x = omega arith in let m1 : x < b = omega arith in
          let g : a ≤ x + 1 = omega arith in let g1 : x + 1 < b = omega arith in
          let u : a ≤ y - 1 = omega arith in let u1 : y - 1 < b = omega arith in let v : a ≤ y = omega arith in let v1 : y < b = omega arith in
          let d : a ≤ y + 1 = omega arith in let d1 : y + 1 < b = omega arith in
          let bx = left_of i x (omega arith) in let by = left_of j y (omega arith) in let ax = right_of i x in let ay = right_of j y in
          made x y (omega arith) (omega arith) ∙ ap (λ (t : Bool). t && next_in r w x y) (is_inner x y (omega arith) (omega arith) (omega arith) (omega arith)) ∙
          (λ k. life r (seen s (x - 1) (y - 1) l l1 u u1 bx by k) (seen s x (y - 1) m m1 u u1 refl by k) (seen s (x + 1) (y - 1) g g1 u u1 ax by k)
          (seen s (x - 1) y l l1 v v1 bx refl k) (seen s x y m m1 v v1 refl refl k) (seen s (x + 1) y g g1 v v1 ax refl k)
          (seen s (x - 1) (y + 1) l l1 d d1 bx ay k) (seen s x (y + 1) m m1 d d1 refl ay k) (seen s (x + 1) (y + 1) g g1 d d1 ax ay k));
    }

pub after_next : (r : Law) (n : ℕ) (p : Plane Bool) → step (life r) (after r n p) ≡ after r (suc n) p
unfolding steps
after_next r n p = sym (steps_add (always (life r)) n 1 p) ∙ ap (λ (m : ℕ). after r m p) (add-one n)

pub after_add : (r : Law) (m n k : ℕ) (p : Plane Bool) → m + n ≡ k → after r n (after r m p) ≡ after r k p
after_add r m n k p e = sym (steps_add (always (life r)) m n p) ∙ ap (λ (t : ℕ). after r t p) e

pub later_none : (r : Law) (w : ℕ) → Later r 0 w w
unfolding steps
later_none r w = record { shows = λ p i j s. s }

pub later_next : (r : Law) (n w now next : ℕ) → n ≤ 8 → Later r n w now → ((x y : ℕ) → x < 8 → y < 8 → cell_in next x y ≡ (inner x y && next_in r now x y)) →
    Later r (n + 1) w next
later_next r n w now next h l made =
    let e : 8 - n - 1 ≡ 8 - (n + 1) = omega arith in
    record {
      shows =
          λ p i j s.
          let t = next_shows r now next (after r n p) i j n (8 - n) (omega arith) made (l.shows p i j s) in
          let q : after r (suc n) p ≡ after r (n + 1) p = ap (λ (m : ℕ). after r m p) (sym (add-one n)) in
          transport (λ k. Shows next ((after_next r n p ∙ q) k) i j (sym (add-one n) k) (e k)) t;
    }

-- ---- words put together

-- a word shows what its quarters show
quarters : {r : ℕ} {p : Plane Bool} (i j : ℕ) →
    ((x y : ℕ) → x < 4 → y < 4 → cell_in r x y ≡ p (pos (i + x)) (pos (j + y))) →
    ((x y : ℕ) → x < 4 → y < 4 → cell_in r (x + 4) y ≡ p (pos (i + (x + 4))) (pos (j + y))) →
    ((x y : ℕ) → x < 4 → y < 4 → cell_in r x (y + 4) ≡ p (pos (i + x)) (pos (j + (y + 4)))) →
    ((x y : ℕ) → x < 4 → y < 4 → cell_in r (x + 4) (y + 4) ≡ p (pos (i + (x + 4))) (pos (j + (y + 4)))) →
    Shows r p i j 0 8
quarters {r} {p} i j nw ne sw se =
    record {
      at =
          λ x y lx hx ly hy.
          elim (dec_lt x 4) [
            | yes a ↦
                elim (dec_lt y 4) [
                  | yes b ↦ nw x y a b
                  | no b ↦ let f : y - 4 + 4 ≡ y = omega arith in transport (λ k. cell_in r x (f k) ≡ p (pos (i + x)) (pos (j + f k))) (sw x (y - 4) a (omega arith))
                ]
            | no a ↦
                let e : x - 4 + 4 ≡ x = omega arith in
                elim (dec_lt y 4) [
                  | yes b ↦ transport (λ k. cell_in r (e k) y ≡ p (pos (i + e k)) (pos (j + y))) (ne (x - 4) y (omega arith) b)
                  | no b ↦
                      let f : y - 4 + 4 ≡ y = omega arith in
                      transport (λ k. cell_in r (e k) (f k) ≡ p (pos (i + e k)) (pos (j + f k))) (se (x - 4) (y - 4) (omega arith) (omega arith))
                ]
          ];
    }

-- a cell of the word is the plane's at that place, counted from elsewhere
moved : {w : ℕ} {p : Plane Bool} {i j a b : ℕ} → Shows w p i j a b → (x y u v : ℕ) → a ≤ x → x < b → a ≤ y → y < b → i + x ≡ u → j + y ≡ v →
    cell_in w x y ≡ p (pos u) (pos v)
moved s x y u v lx hx ly hy e f = seen s x y lx hx ly hy (ap pos e) (ap pos f)

pub shows_across : {p : Plane Bool} {west east r i j : ℕ} → Shows west p i j 0 8 → Shows east p (i + 8) j 0 8 →
    ((x y : ℕ) → x < 4 → y < 8 → cell_in r x y ≡ cell_in west (x + 4) y) → ((x y : ℕ) → x < 4 → y < 8 → cell_in r (x + 4) y ≡ cell_in east x y) →
    Shows r p (i + 4) j 0 8
shows_across {i = i} {j = j} w e left right =
    quarters (i + 4) j
    (λ x y hx hy. left x y hx (omega arith) ∙ moved w (x + 4) y _ _ (omega arith) (omega arith) (omega arith) (omega arith) (omega arith) refl)
    (λ x y hx hy. right x y hx (omega arith) ∙ moved e x y _ _ (omega arith) (omega arith) (omega arith) (omega arith) (omega arith) refl)
    (λ x y hx hy. left x (y + 4) hx (omega arith) ∙ moved w (x + 4) (y + 4) _ _ (omega arith) (omega arith) (omega arith) (omega arith) (omega arith) refl)
    (λ x y hx hy. right x (y + 4) hx (omega arith) ∙ moved e x (y + 4) _ _ (omega arith) (omega arith) (omega arith) (omega arith) (omega arith) refl)

pub shows_down : {p : Plane Bool} {north south r i j : ℕ} → Shows north p i j 0 8 → Shows south p i (j + 8) 0 8 →
    ((x y : ℕ) → x < 8 → y < 4 → cell_in r x y ≡ cell_in north x (y + 4)) → ((x y : ℕ) → x < 8 → y < 4 → cell_in r x (y + 4) ≡ cell_in south x y) →
    Shows r p i (j + 4) 0 8
shows_down {i = i} {j = j} n s upper lower =
    quarters i (j + 4)
    (λ x y hx hy. upper x y (omega arith) hy ∙ moved n x (y + 4) _ _ (omega arith) (omega arith) (omega arith) (omega arith) refl (omega arith))
    (λ x y hx hy. upper (x + 4) y (omega arith) hy ∙ moved n (x + 4) (y + 4) _ _ (omega arith) (omega arith) (omega arith) (omega arith) refl (omega arith))
    (λ x y hx hy. lower x y (omega arith) hy ∙ moved s x y _ _ (omega arith) (omega arith) (omega arith) (omega arith) refl (omega arith))
    (λ x y hx hy. lower (x + 4) y (omega arith) hy ∙ moved s (x + 4) y _ _ (omega arith) (omega arith) (omega arith) (omega arith) refl (omega arith))

pub shows_middle : {p : Plane Bool} {nw ne sw se r i j : ℕ} →
    Shows nw p i j 0 8 → Shows ne p (i + 8) j 0 8 → Shows sw p i (j + 8) 0 8 → Shows se p (i + 8) (j + 8) 0 8 →
    ((x y : ℕ) → x < 4 → y < 4 → cell_in r x y ≡ cell_in nw (x + 4) (y + 4)) → ((x y : ℕ) → x < 4 → y < 4 → cell_in r (x + 4) y ≡ cell_in ne x (y + 4)) →
    ((x y : ℕ) → x < 4 → y < 4 → cell_in r x (y + 4) ≡ cell_in sw (x + 4) y) → ((x y : ℕ) → x < 4 → y < 4 → cell_in r (x + 4) (y + 4) ≡ cell_in se x y) →
    Shows r p (i + 4) (j + 4) 0 8
shows_middle {i = i} {j = j} a b c d nw ne sw se =
    quarters (i + 4) (j + 4)
    (λ x y hx hy. nw x y hx hy ∙ moved a (x + 4) (y + 4) _ _ (omega arith) (omega arith) (omega arith) (omega arith) (omega arith) (omega arith))
    (λ x y hx hy. ne x y hx hy ∙ moved b x (y + 4) _ _ (omega arith) (omega arith) (omega arith) (omega arith) (omega arith) (omega arith))
    (λ x y hx hy. sw x y hx hy ∙ moved c (x + 4) y _ _ (omega arith) (omega arith) (omega arith) (omega arith) (omega arith) (omega arith))
    (λ x y hx hy. se x y hx hy ∙ moved d x y _ _ (omega arith) (omega arith) (omega arith) (omega arith) (omega arith) (omega arith))

-- the cores of four words that overlap by half
pub shows_cores : {p : Plane Bool} {nw ne sw se r i j a b : ℕ} → a ≤ 2 → 6 ≤ b →
    Shows nw p i j a b → Shows ne p (i + 4) j a b → Shows sw p i (j + 4) a b → Shows se p (i + 4) (j + 4) a b →
    ((x y : ℕ) → x < 4 → y < 4 → cell_in r x y ≡ cell_in nw (x + 2) (y + 2)) → ((x y : ℕ) → x < 4 → y < 4 → cell_in r (x + 4) y ≡ cell_in ne (x + 2) (y + 2)) →
    ((x y : ℕ) → x < 4 → y < 4 → cell_in r x (y + 4) ≡ cell_in sw (x + 2) (y + 2)) → ((x y : ℕ) → x < 4 → y < 4 → cell_in r (x + 4) (y + 4) ≡ cell_in se (x + 2) (y + 2)) →
    Shows r p (i + 2) (j + 2) 0 8
shows_cores {i = i} {j = j} l h a b c d nw ne sw se =
    quarters (i + 2) (j + 2)
    (λ x y hx hy. nw x y hx hy ∙ moved a (x + 2) (y + 2) _ _ (omega arith) (omega arith) (omega arith) (omega arith) (omega arith) (omega arith))
    (λ x y hx hy. ne x y hx hy ∙ moved b (x + 2) (y + 2) _ _ (omega arith) (omega arith) (omega arith) (omega arith) (omega arith) (omega arith))
    (λ x y hx hy. sw x y hx hy ∙ moved c (x + 2) (y + 2) _ _ (omega arith) (omega arith) (omega arith) (omega arith) (omega arith) (omega arith))
    (λ x y hx hy. se x y hx hy ∙ moved d (x + 2) (y + 2) _ _ (omega arith) (omega arith) (omega arith) (omega arith) (omega arith) (omega arith))

-- ---- the four words of a square of side 16

pub record Four (nw ne sw se : ℕ) (p : Plane Bool) : Type 0 where
  pub a : Shows nw p 0 0 0 8
  pub b : Shows ne p 8 0 0 8
  pub c : Shows sw p 0 8 0 8
  pub d : Shows se p 8 8 0 8

pub four : {nw ne sw se : ℕ} {p : Plane Bool} → Shows16 nw ne sw se p → Four nw ne sw se p
four {nw} {ne} {sw} {se} {p} s =
    record {
      a = record { at = λ x y lx hx ly hy. sym (s.upper_left x y hx hy) ∙ (λ k. p (pos (zero_left x k)) (pos (zero_left y k))) };
      b = record { at = λ x y lx hx ly hy. sym (s.upper_right x y hx hy) ∙ (λ k. p (pos (eight_left x k)) (pos (zero_left y k))) };
      c = record { at = λ x y lx hx ly hy. sym (s.lower_left x y hx hy) ∙ (λ k. p (pos (zero_left x k)) (pos (eight_left y k))) };
      d = record { at = λ x y lx hx ly hy. sym (s.lower_right x y hx hy) ∙ (λ k. p (pos (eight_left x k)) (pos (eight_left y k))) };
    }
  where
    zero_left : (x : ℕ) → x ≡ 0 + x
    zero_left x = omega arith

    eight_left : (x : ℕ) → x + 8 ≡ 8 + x
    eight_left x = omega arith

-- the middle, as the leap has it
pub in_middle : (law : Law) (m n k w : ℕ) (p : Plane Bool) → Shows w (after law n (after law m p)) 4 4 0 8 → m + n ≡ k → (x y : ℕ) → x < 8 → y < 8 →
    cell_in w x y ≡ after law k p (pos (x + 4)) (pos (y + 4))
in_middle law m n k w p s e x y hx hy =
    moved s x y (x + 4) (y + 4) (omega arith) (omega arith) (omega arith) (omega arith) (omega arith) (omega arith) ∙ (λ i. after_add law m n k p e i (pos (x + 4)) (pos (y + 4)))
