-- Leaps from parts, of words, and of nothing.
use Rattle.std.proofs.Common.{◌≡◌, ℕ, zero, suc, ◌+◌, ◌^◌, ◌<◌, ◌≤◌, Bool, true, false, cond, not, ◌&&◌, T, eqb, ltb, length, ℤ, pos, sym, refl, ap, ◌∙◌, arith}
use Rattle.model.specs.Planes.{Plane, Schedule, always, step, steps}
use Rattle.model.specs.Rules.{Rule as Law, good_rule, life, nth}
use Rattle.model.specs.Squares.{Square, Leaf, Four, level, nw, ne, sw, se, state_at, middle, leap, leap_by, plain, living}
use Rattle.model.proofs.Squares.{level_four, levels}
use Rattle.model.proofs.Shapes.{squares_same, build_right, plain_at}
use Rattle.model.proofs.Leaps.{leap_by_right}
use Rattle.leaf.specs.Words.{cell_in}
use Rattle.nodes.specs.Nodes.{Table, square_of}
use Rattle.pieces.specs.Nine.{ninth}
use Rattle.advance.specs.Advancing.{touching, four_of}

-- a square whose quarters are no single cells
pub record Twice (q : Square Bool) : Type 0 where
  pub tnw : nw q ≡ Four (nw (nw q)) (ne (nw q)) (sw (nw q)) (se (nw q))
  pub tne : ne q ≡ Four (nw (ne q)) (ne (ne q)) (sw (ne q)) (se (ne q))
  pub tsw : sw q ≡ Four (nw (sw q)) (ne (sw q)) (sw (sw q)) (se (sw q))
  pub tse : se q ≡ Four (nw (se q)) (ne (se q)) (sw (se q)) (se (se q))

pub twice_of : (v : Table) (d i : ℕ) → Twice (square_of v (suc (suc d)) i)
unfolding square_of
twice_of v d i = record { tnw = refl; tne = refl; tsw = refl; tse = refl }

less : (j n : ℕ) → j ≤ n → ltb j (suc n) ≡ true
less j n h = grind arith

not_less : (n : ℕ) → ltb (suc n) (suc n) ≡ false
not_less n = grind arith

pub cond_true : {A : Type 0} (b : Bool) (x y : A) → b ≡ true → cond b x y ≡ x
cond_true true x y e = refl
cond_true false x y e = absurd (no e)
  where
    no : false ≡ true → ⊥
    no e = grind arith

pub cond_false : {A : Type 0} (b : Bool) (x y : A) → b ≡ false → cond b x y ≡ y
cond_false false x y e = refl
cond_false true x y e = absurd (no e)
  where
    no : true ≡ false → ⊥
    no e = grind arith

-- the leap by the greatest power is the leap
leap_whole : (σ : Schedule Bool) (n : ℕ) (q : Square Bool) → leap_by σ n n q ≡ leap σ n q
unfolding leap_by
leap_whole σ zero q = refl
leap_whole σ (suc n) q = cond_false (ltb (suc n) (suc n)) _ _ (not_less n)

-- a smaller leap: of the four that the nine make, the middles
pub leap_small : (σ : Schedule Bool) (j n : ℕ) (q : Square Bool) → Twice q → j ≤ n → leap_by σ j (suc n) q ≡ four_of (λ i. middle (touching (λ k. leap_by σ j n (ninth k q)) i))
unfolding leap_by
leap_small σ j n q t h =
    cond_true (ltb j (suc n)) _ _ (less j n h) ∙
    (λ i.
    let a = leap_by σ j n (t.tnw i) in let b = leap_by σ j n (ninth 1 q) in let c = leap_by σ j n (t.tne i) in
    let d = leap_by σ j n (ninth 3 q) in let e = leap_by σ j n (ninth 4 q) in let f = leap_by σ j n (ninth 5 q) in
    let g = leap_by σ j n (t.tsw i) in let k = leap_by σ j n (ninth 7 q) in let l = leap_by σ j n (t.tse i) in
    Four (middle (Four a b d e)) (middle (Four b c e f)) (middle (Four d e g k)) (middle (Four e f k l)))

-- the leap: the four that the nine make leap in turn
pub leap_full : (r : Law) (n : ℕ) (q : Square Bool) → Twice q →
    leap_by (always (life r)) (suc n) (suc n) q ≡ four_of (λ i. leap_by (always (life r)) n n (touching (λ k. leap_by (always (life r)) n n (ninth k q)) i))
unfolding leap
leap_full r n q t =
    let σ = always (life r) in
    let w : (s : Square Bool) → leap σ n s ≡ leap_by σ n n s = λ s. sym (leap_whole σ n s) in
    leap_whole σ (suc n) q ∙
    (λ i.
    let a = w (t.tnw i) i in let b = w (ninth 1 q) i in let c = w (t.tne i) i in
    let d = w (ninth 3 q) i in let e = w (ninth 4 q) i in let f = w (ninth 5 q) i in
    let g = w (t.tsw i) i in let k = w (ninth 7 q) i in let l = w (t.tse i) i in
    Four (w (Four a b d e) i) (w (Four b c e f) i) (w (Four d e g k) i) (w (Four e f k l) i))

-- ---- nothing
pub square_level : (v : Table) (d i : ℕ) → T (level (suc (suc (suc d))) (square_of v d i))
unfolding square_of
square_level v zero i = (build_right 3 (cell_in (v i).upper)).0
square_level v (suc d) i = level_four (suc (suc (suc d))) _ _ _ _ (square_level v d _) (square_level v d _) (square_level v d _) (square_level v d _)

none_living : (k : ℕ) (s : Square Bool) → T (level k s) → living s ≡ 0 → s ≡ plain false k
unfolding living plain level
none_living zero (Leaf true) l e = absurd (omega arith)
none_living zero (Leaf false) l e = refl
none_living zero (Four a b c d) l e = absurd l
none_living (suc k) (Leaf a) l e = absurd l
none_living (suc k) (Four a b c d) l e =
    let u = levels k (Four a b c d) l in
    let p = none_living k a u.lnw (omega arith) in let q = none_living k b u.lne (omega arith) in
    let r = none_living k c u.lsw (omega arith) in let s = none_living k d u.lse (omega arith) in
    λ i. Four (p i) (q i) (r i) (s i)

abbrev nobody : Plane Bool
nobody x y = false

last : (a b c : Bool) → T (a && b && not c) → c ≡ false
last true true true t = absurd t
last true true false t = refl
last true false c t = absurd t
last false b c t = absurd t

quiet : (r : Law) → T (good_rule r) → (x y : ℤ) → step (life r) nobody x y ≡ false
quiet r g x y = last (eqb (length r.born) 9) (eqb (length r.stays) 9) (nth 0 r.born) g

still_quiet : (r : Law) → T (good_rule r) → (n : ℕ) (x y : ℤ) → steps (always (life r)) n nobody x y ≡ false
unfolding steps
still_quiet r g zero x y = refl
still_quiet r g (suc n) x y = ap (λ (p : Plane Bool). steps (always (life r)) n p x y) (λ i x y. quiet r g x y i) ∙ still_quiet r g n x y

plain_state : (k x y : ℕ) → x < 2 ^ k → y < 2 ^ k → state_at k (plain false k) x y ≡ false
plain_state k x y a b = sym ((plain_at false k nobody 0 0 (λ x y h g. refl)).at x y a b)

plain_level : (k : ℕ) → T (level k (plain false k))
plain_level k = (plain_at false k nobody 0 0 (λ x y h g. refl)).lev

-- nothing comes of nothing
leap_plain : (r : Law) → T (good_rule r) → (j n : ℕ) → j ≤ n → leap_by (always (life r)) j n (plain false (suc (suc n))) ≡ plain false (suc n)
leap_plain r g j n h =
    let σ = always (life r) in let s = plain false (suc (suc n)) in
    let m = leap_by_right σ j n s h (plain_level (suc (suc n))) in
    squares_same (suc n) (leap_by σ j n s) (plain false (suc n)) m.0 (plain_level (suc n)) (λ x y a b.
    sym (m.1 nobody (λ x y c d. sym (plain_state (suc (suc n)) x y c d)) x y a b) ∙ still_quiet r g (2 ^ j) (pos (2 ^ n + x)) (pos (2 ^ n + y)) ∙ sym (plain_state (suc n) x y a b))

pub leap_nothing : (r : Law) → T (good_rule r) → (e p : ℕ) (q : Square Bool) → e ≤ suc (suc p) → T (level (suc (suc (suc (suc p)))) q) → living q ≡ 0 →
    nw q ≡ leap_by (always (life r)) e (suc (suc p)) q
unfolding plain
leap_nothing r g e p q h l n =
    let z = none_living (suc (suc (suc (suc p)))) q l n in
    ap nw z ∙ sym (leap_plain r g e (suc (suc p)) h) ∙ ap (leap_by (always (life r)) e (suc (suc p))) (sym z)
