-- The steps of a leap, from store to store.
use Rattle.std.proofs.Common.{◌≡◌, ℕ, suc, ◌+◌, ◌-◌, ◌/◌, ◌<◌, ◌≤◌, Bool, true, false, T, eqb, ltb, Ok, Err, Result, sym, ap, ◌∙◌, subst, arith}
use native.Mathlib.Decide.{ℕ_discrete}
use Rattle.model.specs.Planes.{always}
use Rattle.model.specs.Rules.{Rule as Law, life}
use Rattle.model.specs.Squares.{Square, Four, nw, ne, sw, se, level, living, leap_by, middle}
use Rattle.rules.specs.Laws.{law}
use Rattle.leaf.specs.AsSquares.{word_square, four_words}
use Rattle.model.specs.declared.quarters.Quarters.{Quarters}
use Rattle.nodes.specs.Nodes.{square_of}
use Rattle.nodes.specs.Memory.{leap_of}
use Rattle.slots.specs.declared.Store.{Store}
use Rattle.slots.specs.Stores.{table, Good, Has, Is}
use Rattle.holds.specs.declared.Hold.{Hold}
use Rattle.holds.specs.Holding.{held, Pushed, Keeping}
use Rattle.holds.proofs.Chain.{held_still, keeping_new}
use Rattle.notes.specs.declared.Leap.{Leap}
use Rattle.notes.specs.Noting.{leap_to, IsLeapOf}
use Rattle.squares.specs.Parts.{QuartersOf}
use Rattle.store.specs.declared.Full.{Full as NoRoom}
use Rattle.store.specs.Interning.{Interned}
use Rattle.collect.specs.Collecting.{FourOf}
use Rattle.pieces.specs.Nine.{ninth, Steady, Answers, Outcome, Given, Gives, IsMiddle, MiddleGiven}
use Rattle.pieces.proofs.Nine.{four_of_lem, is_self}
use Rattle.pieces.proofs.Steady.{steady_trans, keeping_steady, keeping_self, has_steady}
use Rattle.advance.specs.Advancing.{touching, four_of, inner, ninth_leap, quarter_leap, part_of, Task}
use Rattle.advance.specs.Gathering.{part, nine, inner_of, Rooted, Nined, Loose}
use Rattle.advance.specs.declared.Larger.{Larger}
use Rattle.advance.proofs.Leaping.{Twice, leap_small, leap_full, square_level, leap_nothing, cond_true, cond_false}

-- ---- advance
pub nothing_answer : (v : Store) (le : Leap) (p k i n : ℕ) (f : Quarters ℕ) → Task v le p k → i ≡ held v k →
    ((d : ℕ) (q : Square Bool) → Is v d i q → n ≡ living q) → n ≡ 0 → ((d : ℕ) (q : Square Bool) → Is v (suc d) i q → QuartersOf v d q f) →
    Answers (suc p) p k (leap_to le p) v v (Ok f.nw)
nothing_answer v le p k i n f t z c e0 h = λ q b.
    let is = subst (λ (j : ℕ). Is v (suc p) j q) (sym z) b.is in
    let l = subst (λ (s : Square Bool). T (level (suc (suc (suc (suc p)))) s)) is.same (square_level (table v) (suc p) i) in
    subst (Is v p f.nw) (leap_nothing (law le.rule) le.rule.good le.exponent p q (let y = t.power in omega arith) l (sym (c (suc p) q is) ∙ e0)) (h p q is).is_nw

pub noted_answer : (v : Store) (le : Leap) (p k i l : ℕ) → i ≡ held v k → IsLeapOf v le p i l → Answers (suc p) p k (leap_to le p) v v (Ok l)
noted_answer v le p k i l z h = λ q b.
    let s = ap (square_of (table v) (suc p)) z ∙ b.is.same in
    subst (λ (x : Square Bool). Is v p l (leap_to le p x)) s h

pub leap_known : (v w : Store) (le : Leap) (p k i l : ℕ) → Task v le p k → i ≡ held v k → Steady v w → Answers (suc p) p k (leap_to le p) v w (Ok l) → IsLeapOf w le p i l
leap_known v w le p k i l t z s h =
    let b = keeping_self v k (suc p) t.below t.has in let c = keeping_steady s b in
    let n : held w k ≡ i = held_still s.still k t.below ∙ sym z in
    subst (λ (x : Square Bool). Is w p l (leap_to le p x)) (sym c.is.same ∙ ap (square_of (table w) (suc p)) n) (h _ b)

pub has_number : (v w : Store) (le : Leap) (p k i : ℕ) → Task v le p k → i ≡ held v k → Steady v w → Has w (suc p) i
has_number v w le p k i t z s = subst (Has w (suc p)) (held_still s.still k t.below ∙ sym z) (has_steady s t.below t.has)

-- ---- a square that isn't held
pub number_task : (v w : Store) (le : Leap) (p i k : ℕ) → Loose v le p i → Good w → Pushed v w i → k ≡ v.top → Task w le p k
number_task v w le p i k l g h z =
    let n = keeping_new h (is_self v (suc p) i l.has) in let top = h.top in let room = l.room in
    record {
      good = g;
      below = omega arith;
      has = subst (λ (k : ℕ). Has w (suc p) (held w k)) (sym z) n.is.valid;
      power = l.power;
      deep = l.deep;
      room = omega arith;
    }

-- ---- the parts
is_true : (m n : ℕ) → m ≡ n → eqb m n ≡ true
is_true m n h = grind arith

is_false : (m n : ℕ) → (m ≡ n → ⊥) → eqb m n ≡ false
is_false m n h = grind arith

inner_full : (e b : ℕ) → e ≡ b + 3 → inner e b ≡ suc (suc b)
inner_full e b h = grind arith

inner_less : (e b : ℕ) → (e ≡ b + 3 → ⊥) → inner e b ≡ e
inner_less e b h = grind arith

pub inner_power : (e b : ℕ) → e ≤ b + 3 → inner e b ≤ b + 2
inner_power e b h = grind arith

-- the leap is made of the last four parts
pub leap_parts_lem : (r : Law) (e b : ℕ) (q : Square Bool) → Twice q → e ≤ b + 3 → four_of (λ i. part_of r e b (9 + i) q) ≡ leap_of r e (suc b) q
leap_parts_lem r e b q t l = elim (ℕ_discrete e (b + 3)) [
  | yes h ↦
      let n : e ≡ suc (suc (suc b)) = omega arith in let x = inner_full e b h in
      (λ i. four_of (λ k. whole e b h k i)) ∙ (λ i. four_of (λ k. leap_of r (suc (suc b)) b (touching (λ j. leap_of r (x i) b (ninth j q)) k))) ∙
      sym (leap_full r (suc (suc b)) q t) ∙ (λ i. leap_by (always (life r)) (sym n i) (suc (suc (suc b))) q)
  | no h ↦
      let x = inner_less e b h in
      (λ i. four_of (λ k. half e b h k i)) ∙ (λ i. four_of (λ k. middle (touching (λ j. leap_of r (x i) b (ninth j q)) k))) ∙ sym (leap_small (always (life r)) e (suc (suc b)) q t (omega arith))
]
  where
    whole : (e b : ℕ) → e ≡ b + 3 → (k : ℕ) → quarter_leap r e b k q ≡ leap_of r (suc (suc b)) b (touching (λ j. ninth_leap r e b j q) k)
    whole e b h k = cond_true (eqb e (b + 3)) _ _ (is_true e (b + 3) h)

    half : (e b : ℕ) → (e ≡ b + 3 → ⊥) → (k : ℕ) → quarter_leap r e b k q ≡ middle (touching (λ j. ninth_leap r e b j q) k)
    half e b h k = cond_false (eqb e (b + 3)) _ _ (is_false e (b + 3) h)

pub answers_map : (e d k : ℕ) (f g : Square Bool → Square Bool) (v w : Store) (o : Result ℕ NoRoom) → ((q : Square Bool) → f q ≡ g q) → Answers e d k f v w o → Answers e d k g v w o
answers_map e d k f g v w (Ok l) h a = λ q b. subst (Is w d l) (h q) (a q b)
answers_map e d k f g v w (Err x) h a = a

pub outcome_map : {v w : Store} {e d k : ℕ} {f : Square Bool → Square Bool} {o : Result ℕ NoRoom} (g : Square Bool → Square Bool) → ((q : Square Bool) → f q ≡ g q) → Outcome v w e d k f o → Outcome v w e d k g o
outcome_map {v} {w} {e} {d} {k} {f} {o} g h a = record { good = a.good; steady = a.steady; is = answers_map e d k f g v w o h a.is }

first_parts : (i : ℕ) → i < 9 → ltb i 9 ≡ true
first_parts i h = grind arith

last_parts : (i : ℕ) → 9 ≤ i → ltb i 9 ≡ false
last_parts i h = grind arith

pub part_ninth : (r : Law) (e b i : ℕ) → i < 9 → (q : Square Bool) → ninth_leap r e b i q ≡ part_of r e b i q
part_ninth r e b i h q = sym (cond_true (ltb i 9) _ _ (first_parts i h))

pub part_quarter : (r : Law) (e b i j : ℕ) → 9 ≤ i → j ≡ i - 9 → (q : Square Bool) → quarter_leap r e b j q ≡ part_of r e b i q
part_quarter r e b i j h z q = ap (λ (j : ℕ). quarter_leap r e b j q) z ∙ sym (cond_false (ltb i 9) _ _ (last_parts i h))

-- one of the nine
pub inner_fits : (la : Larger) (j : Leap) → la.leap.exponent ≤ la.below + 3 → j ≡ inner_of la → j.exponent ≤ la.below + 2
inner_fits la j h z = let y = inner_power la.leap.exponent la.below h in let w = ap (λ (l : Leap). l.exponent) z in omega arith

pub piece_loose : (v w : Store) (la : Larger) (i n : ℕ) (j : Leap) → Rooted v la → Good w → Steady v w → Answers (suc (suc la.below)) (suc la.below) la.place (ninth i) v w (Ok n) → j ≡ inner_of la → Loose w j la.below n
piece_loose v w la i n j t g s a z =
    let top = s.top in let room = t.room in let deep = t.deep in
    record { good = g; has = (a _ (keeping_self v la.place (suc (suc la.below)) t.below t.has)).valid; power = inner_fits la j t.power z; deep = omega arith; room = omega arith }

pub piece_leap : (v w u : Store) (la : Larger) (i n : ℕ) (j : Leap) (o : Result ℕ NoRoom) → i < 9 → Steady v w → Answers (suc (suc la.below)) (suc la.below) la.place (ninth i) v w (Ok n) → j ≡ inner_of la →
    Given w u (suc la.below) la.below n (leap_to j la.below) o → Outcome v u (suc (suc la.below)) la.below la.place (part la i) o
piece_leap v w u la i n j o m s a z g =
    outcome_map (part la i) (part_ninth (law la.leap.rule) la.leap.exponent la.below i m) (record { good = g.good; steady = steady_trans s g.steady; is = go o g.is })
  where
    go : (o : Result ℕ NoRoom) → Gives (suc la.below) la.below n (leap_to j la.below) w u o → Answers (suc (suc la.below)) la.below la.place (nine la i) v u o
    go (Ok l) h = λ q p. subst (λ (j : Leap). Is u la.below l (leap_to j la.below (ninth i q))) z (h (ninth i q) (a q p))
    go (Err y) h = h

-- the four that touch
pub record Fours (s : Store) (la : Larger) (i : ℕ) (f : Quarters ℕ) : Type 0 where
  pub fnw : (q : Square Bool) → Keeping s la.place (suc (suc la.below)) q → Is s la.below f.nw (nine la (i + i / 2) q)
  pub fne : (q : Square Bool) → Keeping s la.place (suc (suc la.below)) q → Is s la.below f.ne (nine la (i + i / 2 + 1) q)
  pub fsw : (q : Square Bool) → Keeping s la.place (suc (suc la.below)) q → Is s la.below f.sw (nine la (i + i / 2 + 3) q)
  pub fse : (q : Square Bool) → Keeping s la.place (suc (suc la.below)) q → Is s la.below f.se (nine la (i + i / 2 + 4) q)

at_part : (s : Store) (h : Hold) (la : Larger) (j n : ℕ) → Nined s h la → j < 9 → n ≡ held s (h.from + j) → (q : Square Bool) → Keeping s la.place (suc (suc la.below)) q → Is s la.below n (nine la j q)
at_part s h la j n t l z q p = subst (λ (n : ℕ). Is s la.below n (nine la j q)) (sym z) (t.each q p j l).is

pub fours : (s : Store) (h : Hold) (la : Larger) (i : ℕ) (f : Quarters ℕ) → Nined s h la → i < 4 → f.nw ≡ held s (h.from + (i + i / 2)) → f.ne ≡ held s (h.from + (i + i / 2 + 1)) →
    f.sw ≡ held s (h.from + (i + i / 2 + 3)) → f.se ≡ held s (h.from + (i + i / 2 + 4)) → Fours s la i f
fours s h la i f t l z1 z2 z3 z4 = record {
  fnw = at_part s h la (i + i / 2) f.nw t (omega arith) z1;
  fne = at_part s h la (i + i / 2 + 1) f.ne t (omega arith) z2;
  fsw = at_part s h la (i + i / 2 + 3) f.sw t (omega arith) z3;
  fse = at_part s h la (i + i / 2 + 4) f.se t (omega arith) z4;
}

pub four_has : (s : Store) (la : Larger) (i : ℕ) (f : Quarters ℕ) → Rooted s la → Fours s la i f → FourOf s la.below f
four_has s la i f t h =
    let p = keeping_self s la.place (suc (suc la.below)) t.below t.has in
    record { has_nw = (h.fnw _ p).valid; has_ne = (h.fne _ p).valid; has_sw = (h.fsw _ p).valid; has_se = (h.fse _ p).valid }

pub four_touch : (v w : Store) (la : Larger) (i n : ℕ) (f : Quarters ℕ) → Fours v la i f → Interned v w la.below f (Ok n) → (q : Square Bool) → Keeping v la.place (suc (suc la.below)) q → Is w (suc la.below) n (touching (λ j. nine la j q) i)
four_touch v w la i n f h a q p = (a _ _ _ _ (h.fnw q p) (h.fne q p) (h.fsw q p) (h.fse q p)).is

pub four_loose : (v w : Store) (la : Larger) (i n : ℕ) (j : Leap) (f : Quarters ℕ) → Rooted v la → Good w → Steady v w → Fours v la i f → Interned v w la.below f (Ok n) → j ≡ inner_of la → Loose w j la.below n
four_loose v w la i n j f t g s h a z =
    let top = s.top in let room = t.room in let deep = t.deep in
    record { good = g; has = (four_touch v w la i n f h a _ (keeping_self v la.place (suc (suc la.below)) t.below t.has)).valid; power = inner_fits la j t.power z; deep = omega arith; room = omega arith }

-- the i-th quarter of the whole leap, as a part
as_part : (v u : Store) (la : Larger) (i : ℕ) (o : Result ℕ NoRoom) → Outcome v u (suc (suc la.below)) la.below la.place (quarter_leap (law la.leap.rule) la.leap.exponent la.below i) o →
    Outcome v u (suc (suc la.below)) la.below la.place (part la (9 + i)) o
as_part v u la i o = outcome_map (part la (9 + i)) (part_quarter (law la.leap.rule) la.leap.exponent la.below (9 + i) i (omega arith) (omega arith))

pub four_leap : (v w u : Store) (la : Larger) (i n : ℕ) (j : Leap) (f : Quarters ℕ) (o : Result ℕ NoRoom) → true ≡ eqb la.leap.exponent (la.below + 3) → j ≡ inner_of la → Steady v w → Fours v la i f → Interned v w la.below f (Ok n) →
    Given w u (suc la.below) la.below n (leap_to j la.below) o → Outcome v u (suc (suc la.below)) la.below la.place (part la (9 + i)) o
four_leap v w u la i n j f o z y s h a g = as_part v u la i o (record { good = g.good; steady = steady_trans s g.steady; is = go o g.is })
  where
    go : (o : Result ℕ NoRoom) → Gives (suc la.below) la.below n (leap_to j la.below) w u o → Answers (suc (suc la.below)) la.below la.place (quarter_leap (law la.leap.rule) la.leap.exponent la.below i) v u o
    go (Ok l) d = λ q p.
        let t = touching (λ j. nine la j q) i in let xs = cond_true (eqb la.leap.exponent (la.below + 3)) (suc (suc la.below)) la.leap.exponent (sym z) in
        subst (Is u la.below l) ((λ k. leap_to (y k) la.below t) ∙ (λ k. leap_of (law la.leap.rule) (xs k) la.below t) ∙ sym (cond_true (eqb la.leap.exponent (la.below + 3)) _ _ (sym z)))
        (d t (four_touch v w la i n f h a q p))
    go (Err c) d = d

pub four_middle : (v w : Store) (la : Larger) (i : ℕ) (f : Quarters ℕ) (o : Result ℕ NoRoom) → false ≡ eqb la.leap.exponent (la.below + 3) → Fours v la i f → MiddleGiven v w la.below f o →
    Outcome v w (suc (suc la.below)) la.below la.place (part la (9 + i)) o
four_middle v w la i f o z h m = as_part v w la i o (record { good = m.good; steady = m.steady; is = go o m.is })
  where
    go : (o : Result ℕ NoRoom) → IsMiddle v w la.below f o → Answers (suc (suc la.below)) la.below la.place (quarter_leap (law la.leap.rule) la.leap.exponent la.below i) v w o
    go (Ok l) a = λ q p. subst (Is w la.below l) (sym (cond_false (eqb la.leap.exponent (la.below + 3)) _ _ (sym z))) (a _ _ _ _ (h.fnw q p) (h.fne q p) (h.fsw q p) (h.fse q p))
    go (Err c) a = a

-- ---- words
pub quarters_self : (v : Store) (p k i : ℕ) (f : Quarters ℕ) → Has v (suc p) (held v k) → i ≡ held v k → ((d : ℕ) (q : Square Bool) → Is v (suc d) i q → QuartersOf v d q f) →
    QuartersOf v p (square_of (table v) (suc p) i) f
quarters_self v p k i f h z c = c p _ (is_self v (suc p) i (subst (Has v (suc p)) (sym z) h))

-- a square of side 16 is that of its words
pub words_square : (v : Store) (k i : ℕ) (f : Quarters ℕ) (a b c d : ℕ) (q : Square Bool) → Keeping v k 1 q → i ≡ held v k → ((d : ℕ) (q : Square Bool) → Is v (suc d) i q → QuartersOf v d q f) →
    ((q : Square Bool) → Is v 0 f.nw q → q ≡ word_square a) → ((q : Square Bool) → Is v 0 f.ne q → q ≡ word_square b) →
    ((q : Square Bool) → Is v 0 f.sw q → q ≡ word_square c) → ((q : Square Bool) → Is v 0 f.se q → q ≡ word_square d) → q ≡ four_words a b c d
words_square v k i f a b c d q p z h ha hb hc hd =
    let is = subst (λ (j : ℕ). Is v 1 j q) (sym z) p.is in let o = h 0 q is in
    four_of_lem v 0 i q is ∙ (λ t. Four (ha (nw q) o.is_nw t) (hb (ne q) o.is_ne t) (hc (sw q) o.is_sw t) (hd (se q) o.is_se t))
