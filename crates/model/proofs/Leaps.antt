-- The leap is right: by induction over how it was made, for every corner at once, so that the nine and the four are instances.
use Rattle.std.proofs.Common.{◌≡◌, ℕ, zero, suc, ◌+◌, ◌^◌, ◌≤◌, T, ltb, pos, sym, refl, ◌∙◌, subst, arith, ltb→lt, nltb→le}
use borrow.Author.Differences.{ints}
use Rattle.model.specs.Planes.{Plane, Local, Schedule, back, ahead, step, steps}
use Rattle.model.specs.Squares.{Square, Four, level, nw, ne, sw, se, state_at, beside, below, middle, small, later, leap, leap_by, Leaps, ByRule, ByFours, ByMiddles}
use Rattle.model.specs.World.{size}
use Rattle.model.specs.Promise.{Middle, LeapRight, LeapByRight, LeapsRight}
use Rattle.model.proofs.Order.{if_so}
use Rattle.model.proofs.Time.{steps_add}
use Rattle.model.proofs.Squares.{At, move, four, quarters, beside_at, below_at, middle_at, core_of, leaf_at, at_shows}

back_pos : (n : ℕ) → back (pos (suc n)) ≡ pos n
back_pos n = omega (arith, ints)

ahead_pos : (n : ℕ) → ahead (pos n) ≡ pos (suc n)
ahead_pos n = omega (arith, ints)

step_one : {S : Type 0} (σ : Schedule S) (p : Plane S) → steps σ (2 ^ 0) p ≡ step (σ 0) p
unfolding steps
step_one σ p = refl

-- the cell in the middle of nine that the plane shows
nine_at : {S : Type 0} (l : Local S) (p : Plane S) (i j : ℕ) {a b c d e f g h k : S} →
    p (pos i) (pos j) ≡ a → p (pos (suc i)) (pos j) ≡ b → p (pos (suc (suc i))) (pos j) ≡ c →
    p (pos i) (pos (suc j)) ≡ d → p (pos (suc i)) (pos (suc j)) ≡ e → p (pos (suc (suc i))) (pos (suc j)) ≡ f →
    p (pos i) (pos (suc (suc j))) ≡ g → p (pos (suc i)) (pos (suc (suc j))) ≡ h → p (pos (suc (suc i))) (pos (suc (suc j))) ≡ k →
    step l p (pos (suc i)) (pos (suc j)) ≡ l a b c d e f g h k
nine_at l p i j a b c d e f g h k =
    let u = back_pos i in let v = ahead_pos (suc i) in let w = back_pos j in let z = ahead_pos (suc j) in
    (λ m.
    l (p (u m) (w m)) (p (pos (suc i)) (w m)) (p (v m) (w m)) (p (u m) (pos (suc j))) (p (pos (suc i)) (pos (suc j))) (p (v m) (pos (suc j)))
    (p (u m) (z m)) (p (pos (suc i)) (z m)) (p (v m) (z m))) ∙
    (λ m. l (a m) (b m) (c m) (d m) (e m) (f m) (g m) (h m) (k m))

small_at : {S : Type 0} (l : Local S) {s : Square S} {p : Plane S} {i j : ℕ} → At 2 s p i j → At 1 (small l s) (step l p) (i + 2 ^ 0) (j + 2 ^ 0)
small_at l {p = p} {i = i} {j = j} q =
    let o = quarters q in
    let a = quarters o.qnw in let b = quarters o.qne in let c = quarters o.qsw in let d = quarters o.qse in
    let r00 = core_of {i' = i} {j' = j} a.qnw refl refl in
    let r10 = core_of {i' = suc i} {j' = j} a.qne (omega arith) refl in
    let r20 = core_of {i' = suc (suc i)} {j' = j} b.qnw (omega arith) refl in
    let r30 = core_of {i' = suc (suc (suc i))} {j' = j} b.qne (omega arith) refl in
    let r01 = core_of {i' = i} {j' = suc j} a.qsw refl (omega arith) in
    let r11 = core_of {i' = suc i} {j' = suc j} a.qse (omega arith) (omega arith) in
    let r21 = core_of {i' = suc (suc i)} {j' = suc j} b.qsw (omega arith) (omega arith) in
    let r31 = core_of {i' = suc (suc (suc i))} {j' = suc j} b.qse (omega arith) (omega arith) in
    let r02 = core_of {i' = i} {j' = suc (suc j)} c.qnw refl (omega arith) in
    let r12 = core_of {i' = suc i} {j' = suc (suc j)} c.qne (omega arith) (omega arith) in
    let r22 = core_of {i' = suc (suc i)} {j' = suc (suc j)} d.qnw (omega arith) (omega arith) in
    let r32 = core_of {i' = suc (suc (suc i))} {j' = suc (suc j)} d.qne (omega arith) (omega arith) in
    let r03 = core_of {i' = i} {j' = suc (suc (suc j))} c.qsw refl (omega arith) in
    let r13 = core_of {i' = suc i} {j' = suc (suc (suc j))} c.qse (omega arith) (omega arith) in
    let r23 = core_of {i' = suc (suc i)} {j' = suc (suc (suc j))} d.qsw (omega arith) (omega arith) in
    let r33 = core_of {i' = suc (suc (suc i))} {j' = suc (suc (suc j))} d.qse (omega arith) (omega arith) in
    four (leaf_at (nine_at l p i j r00 r10 r20 r01 r11 r21 r02 r12 r22) (omega arith) (omega arith))
    (leaf_at (nine_at l p (suc i) j r10 r20 r30 r11 r21 r31 r12 r22 r32) (omega arith) (omega arith))
    (leaf_at (nine_at l p i (suc j) r01 r11 r21 r02 r12 r22 r03 r13 r23) (omega arith) (omega arith))
    (leaf_at (nine_at l p (suc i) (suc j) r11 r21 r31 r12 r22 r32 r13 r23 r33) (omega arith) (omega arith))

-- twice half the way
twice : {S : Type 0} (σ : Schedule S) (j : ℕ) (p : Plane S) → steps (later (2 ^ j) σ) (2 ^ j) (steps σ (2 ^ j) p) ≡ steps σ (2 ^ suc j) p
twice σ j p =
    let e : 2 ^ j + 2 ^ j ≡ 2 ^ suc j = omega arith in
    sym (steps_add σ (2 ^ j) (2 ^ j) p) ∙ (λ m. steps σ (e m) p)

-- the nine squares of half the side that overlap in a square
record Nine {S : Type 0} (n : ℕ) (s : Square S) (p : Plane S) (u v : ℕ) : Type 0 where
  na : At (suc n) (nw s) p u v
  nb : At (suc n) (beside (nw s) (ne s)) p (u + 2 ^ n) v
  nc : At (suc n) (ne s) p (u + 2 ^ suc n) v
  nd : At (suc n) (below (nw s) (sw s)) p u (v + 2 ^ n)
  ne' : At (suc n) (middle s) p (u + 2 ^ n) (v + 2 ^ n)
  nf : At (suc n) (below (ne s) (se s)) p (u + 2 ^ suc n) (v + 2 ^ n)
  ng : At (suc n) (sw s) p u (v + 2 ^ suc n)
  nh : At (suc n) (beside (sw s) (se s)) p (u + 2 ^ n) (v + 2 ^ suc n)
  ni : At (suc n) (se s) p (u + 2 ^ suc n) (v + 2 ^ suc n)

nines : {S : Type 0} {n : ℕ} {s : Square S} {p : Plane S} {u v : ℕ} → At (suc (suc n)) s p u v → Nine n s p u v
nines q =
    let o = quarters q in
    record {
      na = o.qnw;
      nb = beside_at o.qnw o.qne;
      nc = o.qne;
      nd = below_at o.qnw o.qsw;
      ne' = middle_at q;
      nf = below_at o.qne o.qse;
      ng = o.qsw;
      nh = beside_at o.qsw o.qse;
      ni = o.qse;
    }

-- the four that the leaps of the nine make
record Fours {S : Type 0} (n : ℕ) (a b c d e f g h i : Square S) (p : Plane S) (u v : ℕ) : Type 0 where
  fnw : At (suc (suc n)) (Four a b d e) p (u + 2 ^ n) (v + 2 ^ n)
  fne : At (suc (suc n)) (Four b c e f) p (u + 2 ^ n + 2 ^ suc n) (v + 2 ^ n)
  fsw : At (suc (suc n)) (Four d e g h) p (u + 2 ^ n) (v + 2 ^ n + 2 ^ suc n)
  fse : At (suc (suc n)) (Four e f h i) p (u + 2 ^ n + 2 ^ suc n) (v + 2 ^ n + 2 ^ suc n)

fours : {S : Type 0} {n : ℕ} {a b c d e f g h i : Square S} {p : Plane S} (u v : ℕ) →
    At (suc n) a p (u + 2 ^ n) (v + 2 ^ n) → At (suc n) b p (u + 2 ^ suc n + 2 ^ n) (v + 2 ^ n) → At (suc n) c p (u + 2 ^ suc (suc n) + 2 ^ n) (v + 2 ^ n) →
    At (suc n) d p (u + 2 ^ n) (v + 2 ^ suc n + 2 ^ n) → At (suc n) e p (u + 2 ^ suc n + 2 ^ n) (v + 2 ^ suc n + 2 ^ n) →
    At (suc n) f p (u + 2 ^ suc (suc n) + 2 ^ n) (v + 2 ^ suc n + 2 ^ n) →
    At (suc n) g p (u + 2 ^ n) (v + 2 ^ suc (suc n) + 2 ^ n) → At (suc n) h p (u + 2 ^ suc n + 2 ^ n) (v + 2 ^ suc (suc n) + 2 ^ n) →
    At (suc n) i p (u + 2 ^ suc (suc n) + 2 ^ n) (v + 2 ^ suc (suc n) + 2 ^ n) → Fours n a b c d e f g h i p u v
fours {n = n} u v a b c d e f g h i =
    let o : (w : ℕ) → w + 2 ^ suc n + 2 ^ n ≡ w + 2 ^ n + 2 ^ suc n = λ w. omega arith in
    let t : (w : ℕ) → w + 2 ^ suc (suc n) + 2 ^ n ≡ w + 2 ^ n + 2 ^ suc n + 2 ^ suc n = λ w. omega arith in
    let b' = move b (o u) refl in let c' = move c (t u) refl in let d' = move d refl (o v) in let e' = move e (o u) (o v) in
    let f' = move f (t u) (o v) in let g' = move g refl (t v) in let h' = move h (o u) (t v) in let i' = move i (t u) (t v) in
    record { fnw = four a b' d' e'; fne = four b' c' e' f'; fsw = four d' e' g' h'; fse = four e' f' h' i' }

-- four squares of half the side, moved in by half of that
joined : {S : Type 0} {n : ℕ} {a b c d : Square S} {p : Plane S} (u v : ℕ) →
    At (suc n) a p (u + 2 ^ n + 2 ^ n) (v + 2 ^ n + 2 ^ n) → At (suc n) b p (u + 2 ^ n + 2 ^ suc n + 2 ^ n) (v + 2 ^ n + 2 ^ n) →
    At (suc n) c p (u + 2 ^ n + 2 ^ n) (v + 2 ^ n + 2 ^ suc n + 2 ^ n) → At (suc n) d p (u + 2 ^ n + 2 ^ suc n + 2 ^ n) (v + 2 ^ n + 2 ^ suc n + 2 ^ n) →
    At (suc (suc n)) (Four a b c d) p (u + 2 ^ suc n) (v + 2 ^ suc n)
joined {n = n} u v a b c d =
    let o : (w : ℕ) → w + 2 ^ n + 2 ^ n ≡ w + 2 ^ suc n = λ w. omega arith in
    let t : (w : ℕ) → w + 2 ^ n + 2 ^ suc n + 2 ^ n ≡ w + 2 ^ suc n + 2 ^ suc n = λ w. omega arith in
    four (move a (o u) (o v)) (move b (t u) (o v)) (move c (o u) (t v)) (move d (t u) (t v))

pub leaps_at : {S : Type 0} {σ : Schedule S} {j n : ℕ} {s t : Square S} → Leaps σ j n s t → (p : Plane S) (u v : ℕ) → At (suc (suc n)) s p u v →
    At (suc n) t (steps σ (2 ^ j) p) (u + 2 ^ n) (v + 2 ^ n)
leaps_at {S = S} {σ = σ} {s = s} ByRule p u v q = subst (λ (z : Plane S). At 1 (small (σ 0) s) z (u + 2 ^ 0) (v + 2 ^ 0)) (sym (step_one σ p)) (small_at (σ 0) q)
leaps_at {S = S} {σ = σ} (ByFours {j = j} {n = n} {w = w} {x = x} {y = y} {z = z} a b c d e f g h i k l m o) p u v q =
    let r = nines q in
    let t = fours u v (leaps_at a p u v r.na) (leaps_at b p (u + 2 ^ suc n) v r.nb) (leaps_at c p (u + 2 ^ suc (suc n)) v r.nc)
    (leaps_at d p u (v + 2 ^ suc n) r.nd) (leaps_at e p (u + 2 ^ suc n) (v + 2 ^ suc n) r.ne') (leaps_at f p (u + 2 ^ suc (suc n)) (v + 2 ^ suc n) r.nf)
    (leaps_at g p u (v + 2 ^ suc (suc n)) r.ng) (leaps_at h p (u + 2 ^ suc n) (v + 2 ^ suc (suc n)) r.nh) (leaps_at i p (u + 2 ^ suc (suc n)) (v + 2 ^ suc (suc n)) r.ni) in
    let P = steps σ (2 ^ j) p in
    subst (λ (Z : Plane S). At (suc (suc n)) (Four w x y z) Z (u + 2 ^ suc n) (v + 2 ^ suc n)) (twice σ j p)
    (joined u v (leaps_at k P (u + 2 ^ n) (v + 2 ^ n) t.fnw) (leaps_at l P (u + 2 ^ n + 2 ^ suc n) (v + 2 ^ n) t.fne)
    (leaps_at m P (u + 2 ^ n) (v + 2 ^ n + 2 ^ suc n) t.fsw) (leaps_at o P (u + 2 ^ n + 2 ^ suc n) (v + 2 ^ n + 2 ^ suc n) t.fse))
leaps_at (ByMiddles {n = n} a b c d e f g h i) p u v q =
    let r = nines q in
    let t = fours u v (leaps_at a p u v r.na) (leaps_at b p (u + 2 ^ suc n) v r.nb) (leaps_at c p (u + 2 ^ suc (suc n)) v r.nc)
    (leaps_at d p u (v + 2 ^ suc n) r.nd) (leaps_at e p (u + 2 ^ suc n) (v + 2 ^ suc n) r.ne') (leaps_at f p (u + 2 ^ suc (suc n)) (v + 2 ^ suc n) r.nf)
    (leaps_at g p u (v + 2 ^ suc (suc n)) r.ng) (leaps_at h p (u + 2 ^ suc n) (v + 2 ^ suc (suc n)) r.nh) (leaps_at i p (u + 2 ^ suc (suc n)) (v + 2 ^ suc (suc n)) r.ni) in
    joined u v (middle_at t.fnw) (middle_at t.fne) (middle_at t.fsw) (middle_at t.fse)

pub leap_leaps : {S : Type 0} (σ : Schedule S) (n : ℕ) (s : Square S) → Leaps σ n n s (leap σ n s)
unfolding leap
leap_leaps σ zero s = ByRule
leap_leaps σ (suc n) s =
    ByFours (leap_leaps σ n _) (leap_leaps σ n _) (leap_leaps σ n _) (leap_leaps σ n _) (leap_leaps σ n _) (leap_leaps σ n _) (leap_leaps σ n _) (leap_leaps σ n _) (leap_leaps σ n _)
    (leap_leaps (later (2 ^ n) σ) n _) (leap_leaps (later (2 ^ n) σ) n _) (leap_leaps (later (2 ^ n) σ) n _) (leap_leaps (later (2 ^ n) σ) n _)

pub leap_by_leaps : {S : Type 0} (σ : Schedule S) (j n : ℕ) (s : Square S) → j ≤ n → Leaps σ j n s (leap_by σ j n s)
unfolding leap_by
leap_by_leaps σ j zero s h = let e : 0 ≡ j = omega arith in subst (λ (m : ℕ). Leaps σ m 0 s (leap σ 0 s)) e (leap_leaps σ 0 s)
leap_by_leaps σ j (suc n) s h =
    if_so (Leaps σ j (suc n) s) (ltb j (suc n)) _ (leap σ (suc n) s)
    (λ t.
    let k = ltb→lt j (suc n) t in let l : j ≤ n = omega arith in
    ByMiddles (leap_by_leaps σ j n _ l) (leap_by_leaps σ j n _ l) (leap_by_leaps σ j n _ l) (leap_by_leaps σ j n _ l) (leap_by_leaps σ j n _ l)
    (leap_by_leaps σ j n _ l) (leap_by_leaps σ j n _ l) (leap_by_leaps σ j n _ l) (leap_by_leaps σ j n _ l))
    (λ t.
    let k = nltb→le j (suc n) t in let e : suc n ≡ j = omega arith in
    subst (λ (m : ℕ). Leaps σ m (suc n) s (leap σ (suc n) s)) e (leap_leaps σ (suc n) s))

-- every square is shown by some plane
own_plane : {S : Type 0} (k : ℕ) (s : Square S) → T (level k s) → At k s (λ x y. state_at k s (size x) (size y)) 0 0
own_plane k s l = at_shows l (λ x y h g. refl)

pub leaps_right : {S : Type 0} {σ : Schedule S} {j n : ℕ} {s t : Square S} → Leaps σ j n s t → T (level (suc (suc n)) s) → Middle σ j n s t
leaps_right {σ = σ} {j = j} {n = n} {s = s} h l = (
  (leaps_at h _ 0 0 (own_plane (suc (suc n)) s l)).lev,
  λ p f x y a b.
      let u : (z : ℕ) → 2 ^ n + z ≡ 0 + 2 ^ n + z = λ z. omega arith in
      (λ m. steps σ (2 ^ j) p (pos (u x m)) (pos (u y m))) ∙ (leaps_at h p 0 0 (at_shows l f)).at x y a b,
)

pub leap_right : {S : Type 0} (σ : Schedule S) → LeapRight σ
leap_right σ n s l = leaps_right (leap_leaps σ n s) l

pub leap_by_right : {S : Type 0} (σ : Schedule S) → LeapByRight σ
leap_by_right σ j n s h l = leaps_right (leap_by_leaps σ j n s h) l

pub leaps_all_right : {S : Type 0} (σ : Schedule S) → LeapsRight σ
leaps_all_right σ = (λ j n s t h l. leaps_right h l, leap_leaps σ, leap_by_leaps σ)
