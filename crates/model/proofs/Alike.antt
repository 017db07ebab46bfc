-- What is far does not matter, and planes that are moved, mirrored or turned do the same.
use Rattle.std.proofs.Common.{◌≡◌, ℕ, zero, suc, ℤ, ◌+ℤ◌, neg_ℤ, refl, ap, ◌∙◌, arith}
use borrow.Author.Differences.{ints}
use Rattle.model.specs.Planes.{Plane, Local, Schedule, back, ahead, always, step, steps}
use Rattle.model.specs.Rules.{Rule, becomes, tally, life}
use Rattle.model.specs.Promise.{Slow, Keeps, MovedAlike, MirroredAlike, FlippedAlike, TurnedAlike, Mirrors, Turns, SymmetryRight, Alike}
use Rattle.model.proofs.Lists.{by_back, by_same, by_ahead}
use Rattle.model.proofs.Reach.{near_zero, near_by}

pub slow : {S : Type 0} (σ : Schedule S) → Slow σ
unfolding steps
slow σ zero p q x y h = h x y (near_zero x) (near_zero y)
slow σ (suc n) p q x y h =
    slow (λ t. σ (suc t)) n (step (σ 0) p) (step (σ 0) q) x y (λ u v a b.
    let xb = near_by n x u (back u) a (by_back u) in let xs = near_by n x u u a (by_same u) in let xa = near_by n x u (ahead u) a (by_ahead u) in
    let yb = near_by n y v (back v) b (by_back v) in let ys = near_by n y v v b (by_same v) in let ya = near_by n y v (ahead v) b (by_ahead v) in
    (λ i.
    σ 0 (h (back u) (back v) xb yb i) (h u (back v) xs yb i) (h (ahead u) (back v) xa yb i) (h (back u) v xb ys i) (h u v xs ys i) (h (ahead u) v xa ys i)
    (h (back u) (ahead v) xb ya i) (h u (ahead v) xs ya i) (h (ahead u) (ahead v) xa ya i)))

-- what holds of one generation under every rule of the schedule holds of all
keeps : {S : Type 0} (σ : Schedule S) (X Y : ℤ → ℤ → ℤ) →
    ((t : ℕ) (p : Plane S) (x y : ℤ) → step (σ t) (λ u v. p (X u v) (Y u v)) x y ≡ step (σ t) p (X x y) (Y x y)) → Keeps σ X Y
unfolding steps
keeps σ X Y h zero p x y = refl
keeps σ X Y h (suc n) p x y =
    (λ i. steps (λ t. σ (suc t)) n (λ u v. h 0 p u v i) x y) ∙ keeps (λ t. σ (suc t)) X Y (λ t. h (suc t)) n (step (σ 0) p) x y

back-+ : (z a : ℤ) → back z +ℤ a ≡ back (z +ℤ a)
back-+ z a = omega (arith, ints)

ahead-+ : (z a : ℤ) → ahead z +ℤ a ≡ ahead (z +ℤ a)
ahead-+ z a = omega (arith, ints)

back_neg : (z : ℤ) → neg_ℤ (back z) ≡ ahead (neg_ℤ z)
back_neg z = omega (arith, ints)

ahead_neg : (z : ℤ) → neg_ℤ (ahead z) ≡ back (neg_ℤ z)
ahead_neg z = omega (arith, ints)

step_moved : {S : Type 0} (l : Local S) (a b : ℤ) (p : Plane S) (x y : ℤ) → step l (λ u v. p (u +ℤ a) (v +ℤ b)) x y ≡ step l p (x +ℤ a) (y +ℤ b)
step_moved l a b p x y =
    let xb = back-+ x a in let xa = ahead-+ x a in let yb = back-+ y b in let ya = ahead-+ y b in
    λ i.
    l (p (xb i) (yb i)) (p (x +ℤ a) (yb i)) (p (xa i) (yb i)) (p (xb i) (y +ℤ b)) (p (x +ℤ a) (y +ℤ b)) (p (xa i) (y +ℤ b))
    (p (xb i) (ya i)) (p (x +ℤ a) (ya i)) (p (xa i) (ya i))

pub moved_alike : {S : Type 0} (σ : Schedule S) → MovedAlike σ
moved_alike σ a b = keeps σ (λ x y. x +ℤ a) (λ x y. y +ℤ b) (λ t. step_moved (σ t) a b)

step_mirrored : {S : Type 0} (l : Local S) → Mirrors l → (p : Plane S) (x y : ℤ) → step l (λ u v. p (neg_ℤ u) v) x y ≡ step l p (neg_ℤ x) y
step_mirrored l m p x y =
    let b = back_neg x in let a = ahead_neg x in let X = neg_ℤ x in
    (λ i.
    l (p (b i) (back y)) (p X (back y)) (p (a i) (back y)) (p (b i) y) (p X y) (p (a i) y)
    (p (b i) (ahead y)) (p X (ahead y)) (p (a i) (ahead y))) ∙
    m (p (back X) (back y)) (p X (back y)) (p (ahead X) (back y)) (p (back X) y) (p X y) (p (ahead X) y) (p (back X) (ahead y)) (p X (ahead y)) (p (ahead X) (ahead y))

pub mirrored_alike : {S : Type 0} (σ : Schedule S) → ((t : ℕ) → Mirrors (σ t)) → MirroredAlike σ
mirrored_alike σ m = keeps σ (λ x y. neg_ℤ x) (λ x y. y) (λ t. step_mirrored (σ t) (m t))

step_turned : {S : Type 0} (l : Local S) → Turns l → (p : Plane S) (x y : ℤ) → step l (λ u v. p v (neg_ℤ u)) x y ≡ step l p y (neg_ℤ x)
step_turned l m p x y =
    let b = back_neg x in let a = ahead_neg x in let Y = neg_ℤ x in
    (λ i.
    l (p (back y) (b i)) (p (back y) Y) (p (back y) (a i)) (p y (b i)) (p y Y) (p y (a i))
    (p (ahead y) (b i)) (p (ahead y) Y) (p (ahead y) (a i))) ∙
    m (p (back y) (back Y)) (p y (back Y)) (p (ahead y) (back Y)) (p (back y) Y) (p y Y) (p (ahead y) Y) (p (back y) (ahead Y)) (p y (ahead Y)) (p (ahead y) (ahead Y))

pub turned_alike : {S : Type 0} (σ : Schedule S) → ((t : ℕ) → Turns (σ t)) → TurnedAlike σ
turned_alike σ m = keeps σ (λ x y. y) (λ x y. neg_ℤ x) (λ t. step_turned (σ t) (m t))

-- up and down: a mirror and a half turn
flips : {S : Type 0} (l : Local S) → Mirrors l → Turns l → (nw n ne w c e sw s se : S) → l sw s se w c e nw n ne ≡ l nw n ne w c e sw s se
flips l m t nw n ne w c e sw s se = m se s sw e c w ne n nw ∙ t sw w nw s c n se e ne ∙ t nw n ne w c e sw s se

step_flipped : {S : Type 0} (l : Local S) → Mirrors l → Turns l → (p : Plane S) (x y : ℤ) → step l (λ u v. p u (neg_ℤ v)) x y ≡ step l p x (neg_ℤ y)
step_flipped l m t p x y =
    let b = back_neg y in let a = ahead_neg y in let Y = neg_ℤ y in
    (λ i.
    l (p (back x) (b i)) (p x (b i)) (p (ahead x) (b i)) (p (back x) Y) (p x Y) (p (ahead x) Y)
    (p (back x) (a i)) (p x (a i)) (p (ahead x) (a i))) ∙
    flips l m t (p (back x) (back Y)) (p x (back Y)) (p (ahead x) (back Y)) (p (back x) Y) (p x Y) (p (ahead x) Y) (p (back x) (ahead Y)) (p x (ahead Y)) (p (ahead x) (ahead Y))

pub flipped_alike : {S : Type 0} (σ : Schedule S) → ((t : ℕ) → Mirrors (σ t)) → ((t : ℕ) → Turns (σ t)) → FlippedAlike σ
flipped_alike σ m t = keeps σ (λ x y. x) (λ x y. neg_ℤ y) (λ k. step_flipped (σ k) (m k) (t k))

pub symmetry_right : {S : Type 0} (σ : Schedule S) → SymmetryRight σ
symmetry_right σ = (moved_alike σ, mirrored_alike σ, turned_alike σ, flipped_alike σ)

-- a count of eight does not tell them apart
pub life_mirrors : (r : Rule) → Mirrors (life r)
life_mirrors r nw n ne w c e sw s se =
    let k : tally ne n nw e w se s sw ≡ tally nw n ne w e sw s se = omega arith in ap (becomes r c) k

pub life_turns : (r : Rule) → Turns (life r)
life_turns r nw n ne w c e sw s se =
    let k : tally sw w nw s n se e ne ≡ tally nw n ne w e sw s se = omega arith in ap (becomes r c) k

pub alike : (r : Rule) → Alike r
alike r =
    let σ = always (life r) in
    let m = λ (t : ℕ). life_mirrors r in
    let t = λ (t : ℕ). life_turns r in
    (moved_alike σ, mirrored_alike σ m, flipped_alike σ m t, turned_alike σ t)
