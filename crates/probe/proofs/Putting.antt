-- A node put where it fits: what stood in the table stands as before, and one square more.
use Rattle.std.proofs.Common.{◌≡◌, ℕ, zero, suc, ◌+◌, ◌*◌, ◌%◌, ◌^◌, ◌<◌, ◌≤◌, Bool, cond, leb, ◌≢◌, List, sym, refl, ap, ◌∙◌, subst, arith}
use native.Mathlib.Decide.{ℕ_discrete}
use Rattle.model.specs.Squares.{Square, Four, living}
use Rattle.leaf.specs.AsSquares.{word_square}
use Rattle.nodes.specs.declared.Node.{Node}
use Rattle.nodes.specs.Nodes.{Table, first, second, Valid, Kids, IsAt, Sound, square_of, away, home_of, used, limit, Full}
use Rattle.nodes.specs.Memory.{base, word, tag, view, count_in, held_in, target_of, stamp_of, stamped, leap_of, NoteRight, GoodAt, GrowsAt}
use Rattle.nodes.proofs.Tables.{square_frame}
use Rattle.nodes.proofs.Memory.{view_same}
use Rattle.probe.specs.Places.{Proper, square_in, Fit, Filled}

-- the table w is v with the node x in slot s, where it fits
pub record Put (n : ℕ) (v w : Table) (x : Node) (s : ℕ) : Type 0 where
  pub sound : Sound n v
  pub proper : Proper n v x
  pub fit : Fit n v x s
  pub here : w s ≡ x
  pub others : (j : ℕ) → j ≢ s → w j ≡ v j

square_other : {n : ℕ} {v w : Table} {x : Node} {s : ℕ} → Put n v w x s → (i : ℕ) → 2 ≤ (v i).state → w i ≡ v i
square_other {v = v} {s = s} p i h = p.others i (λ e. let f = p.fit.free in let z = ap (λ (u : ℕ). (v u).state) e in omega arith)

pub valid_put : {n : ℕ} {v w : Table} {x : Node} {s : ℕ} → Put n v w x s → {d i : ℕ} → Valid n v d i → Valid n w d i
valid_put p {i = i} a = record { here = a.here; deep = ap (λ (y : Node). y.state) (square_other p i (let z = a.deep in omega arith)) ∙ a.deep }

kids_put : {n : ℕ} {v w : Table} {x : Node} {s : ℕ} → Put n v w x s → {d : ℕ} {y : Node} → Kids n v d y → Kids n w d y
kids_put p k = record { knw = valid_put p k.knw; kne = valid_put p k.kne; ksw = valid_put p k.ksw; kse = valid_put p k.kse }

-- a square of the table w that is not in slot s stood in v
valid_back : {n : ℕ} {v w : Table} {x : Node} {s : ℕ} → Put n v w x s → {d i : ℕ} → i ≢ s → Valid n w d i → Valid n v d i
valid_back p {i = i} ne a = record { here = a.here; deep = sym (ap (λ (y : Node). y.state) (p.others i ne)) ∙ a.deep }

pub square_put : {n : ℕ} {v w : Table} {x : Node} {s : ℕ} → Put n v w x s → (d i : ℕ) → Valid n v d i → square_of w d i ≡ square_of v d i
square_put {n = n} {v = v} {w = w} p d i a =
    square_frame n v w (λ j. 2 ≤ (v j).state) p.sound (λ j h. square_other p j h)
    (λ j e b h. let k = p.sound.kids j e b in (state2 k.knw, state2 k.kne, state2 k.ksw, state2 k.kse)) d i a (state2 a)
  where
    state2 : {d i : ℕ} → Valid n v d i → 2 ≤ (v i).state
    state2 a = let z = a.deep in omega arith

state_here : {n : ℕ} {v w : Table} {x : Node} {s : ℕ} → Put n v w x s → (w s).state ≡ x.state
state_here p = ap (λ (y : Node). y.state) p.here

pub sound_put : {n : ℕ} {v w : Table} {x : Node} {s : ℕ} → Put n v w x s → Sound n w
sound_put {n = n} {v = v} {w = w} {x = x} {s = s} p = record {
  kids = λ i d a. elim (ℕ_discrete i s) [
    | yes e ↦ let h = ap w e ∙ p.here in subst (Kids n w d) (sym h) (kids_put p (p.proper.kids d (let z = a.deep in let y = ap (λ (y : Node). y.state) h in omega arith)))
    | no e ↦ subst (Kids n w d) (sym (p.others i e)) (kids_put p (p.sound.kids i d (valid_back p e a)))
  ];
  leaves = λ i a. elim (ℕ_discrete i s) [
    | yes e ↦ let h = ap w e ∙ p.here in
        subst (λ (y : Node). (y.upper < 2 ^ 64) × (y.lower ≡ 0)) (sym h) (p.proper.leaf (let z = a.deep in let y = ap (λ (y : Node). y.state) h in omega arith))
    | no e ↦ subst (λ (y : Node). (y.upper < 2 ^ 64) × (y.lower ≡ 0)) (sym (p.others i e)) (p.sound.leaves i (valid_back p e a))
  ];
  packed = λ i u l m t a. elim (ℕ_discrete u s) [
    | yes f ↦ let z = ap (λ (j : ℕ). (w j).state) f ∙ state_here p in let y = p.proper.some in omega arith
    | no f ↦ subst (λ (y : Node). 0 < y.state) (sym (p.others u f)) (elim (ℕ_discrete i s) [
      | yes e ↦ p.fit.full u m (subst (λ (j : ℕ). away n (home_of n x) u < away n (home_of n x) j) e
          (subst (λ (y : Node). away n (home_of n y) u < away n (home_of n y) i) (ap w e ∙ p.here) a))
      | no e ↦ p.sound.packed i u l m (subst (λ (y : Node). 2 ≤ y.state) (p.others i e) t)
          (subst (λ (y : Node). away n (home_of n y) u < away n (home_of n y) i) (p.others i e) a)
    ])
  ];
  once = λ i j l m t e. elim (ℕ_discrete i s) [
    | yes f ↦ elim (ℕ_discrete j s) [
      | yes g ↦ f ∙ sym g
      | no g ↦ absurd (p.fit.none j m (sym (p.others j g) ∙ sym e ∙ ap w f ∙ p.here))
    ]
    | no f ↦ elim (ℕ_discrete j s) [
      | yes g ↦ absurd (p.fit.none i l (sym (p.others i f) ∙ e ∙ ap w g ∙ p.here))
      | no g ↦ p.sound.once i j l m (subst (λ (y : Node). 2 ≤ y.state) (p.others i f) t) (sym (p.others i f) ∙ e ∙ p.others j g)
    ]
  ];
}

-- the square that was put
pub square_here : {n : ℕ} {v w : Table} {x : Node} {s : ℕ} → Put n v w x s → (d : ℕ) → x.state ≡ d + 2 → square_of w d s ≡ square_in v d x
unfolding square_of square_in
square_here p zero e = ap (λ (y : Node). word_square y.upper) p.here
square_here {v = v} {w = w} p (suc d) e =
    let k = p.proper.kids d (omega arith) in let h = p.here in
    let nw = square_put p d _ k.knw in let ne = square_put p d _ k.kne in let sw = square_put p d _ k.ksw in let se = square_put p d _ k.kse in
    (λ t. Four (square_of w d (first (h t).upper)) (square_of w d (second (h t).upper)) (square_of w d (first (h t).lower)) (square_of w d (second (h t).lower))) ∙
    (λ t. Four (nw t) (ne t) (sw t) (se t))

pub is_here : {n : ℕ} {v w : Table} {x : Node} {s : ℕ} → Put n v w x s → (d : ℕ) → x.state ≡ d + 2 → IsAt n w d s (square_in v d x)
is_here p d e = record { valid = record { here = p.fit.within; deep = state_here p ∙ e }; same = square_here p d e }

pub is_put : {n : ℕ} {v w : Table} {x : Node} {s : ℕ} → Put n v w x s → {d i : ℕ} {q : Square Bool} → IsAt n v d i q → IsAt n w d i q
is_put p {d = d} {i = i} h = record { valid = valid_put p h.valid; same = square_put p d i h.valid ∙ h.same }

-- one square more
used_beside : (v w : Table) (s k : ℕ) → k ≤ s → ((j : ℕ) → j ≢ s → w j ≡ v j) → used w k ≡ used v k
unfolding used
used_beside v w s zero l o = refl
used_beside v w s (suc k) l o =
    let p = used_beside v w s k (omega arith) o in let q = o k (λ e. omega arith) in λ t. p t + cond (leb 2 (q t).state) 1 0

one : (m s t : ℕ) → s < 2 → 2 ≤ t → m + cond (leb 2 t) 1 0 ≡ m + cond (leb 2 s) 1 0 + 1
one m s t f g = grind arith

used_more : (v w : Table) (s k : ℕ) → s < k → (v s).state < 2 → 2 ≤ (w s).state → ((j : ℕ) → j ≢ s → w j ≡ v j) → used w k ≡ used v k + 1
unfolding used
used_more v w s zero l f g o = absurd (omega arith)
used_more v w s (suc k) l f g o =
    elim (ℕ_discrete k s) [
      | yes e ↦
          let p = used_beside v w s k (omega arith) o in
          subst (λ (j : ℕ). used w k + cond (leb 2 (w j).state) 1 0 ≡ used v k + cond (leb 2 (v j).state) 1 0 + 1) (sym e)
          (subst (λ (m : ℕ). m + cond (leb 2 (w s).state) 1 0 ≡ used v k + cond (leb 2 (v s).state) 1 0 + 1) (sym p) (one (used v k) (v s).state (w s).state f g))
      | no e ↦
          let p = used_more v w s k (omega arith) f g o in let q : ◌≡◌ {A = ℕ} (cond (leb 2 (w k).state) 1 0) (cond (leb 2 (v k).state) 1 0) = ap (λ (y : Node). cond (leb 2 y.state) 1 0) (o k e) in omega arith
    ]

-- the slot's words in place of its node
pub put_of : (a n s : ℕ) (x : Node) (count : ℕ) (m w : List ℕ) → Sound n (view a m) → Proper n (view a m) x → Fit n (view a m) x s → Filled a s x count m w → Put n (view a m) (view a w) x s
unfolding view
put_of a n s x count m w so pr fi f = record {
  sound = so;
  proper = pr;
  fit = fi;
  here =
      let most = pr.most in let e = f.tagged in let z : tag a w s % 128 ≡ x.state = omega arith in let u = f.upper in let l = f.lower in
      λ t. record { state = z t; upper = u t; lower = l t };
  others = λ j ne. view_same a m w j (ap (λ (z : ℕ). z % 128) (f.beside j 0 (omega arith) ne)) (f.beside j 1 (omega arith) ne) (f.beside j 2 (omega arith) ne);
}

note_put : {n : ℕ} {v w : Table} {x : Node} {s : ℕ} → Put n v w x s → (p i c : ℕ) → Valid n v (suc p) i → NoteRight n v p i c → NoteRight n w p i c
note_put {n = n} {w = w} h p i c a r = record {
  right = λ e k l. let q = is_put h (r.right e k l) in subst (λ (z : Square Bool). IsAt n w p (target_of c) z) (ap (λ (z : Square Bool). leap_of (stamped (stamp_of c)) e p z) (sym (square_put h (suc p) i a))) q;
}

pub good_put : (a n t l l' : ℕ) (m w : List ℕ) (x : Node) (s count : ℕ) → GoodAt a n t l m → l ≡ l' + 1 → Proper n (view a m) x → Fit n (view a m) x s → Filled a s x count m w →
    ((d : ℕ) → x.state ≡ d + 2 → count ≡ living (square_in (view a m) d x)) → GoodAt a n t l' w
good_put a n t l l' m w x s count g e pr fi f c =
    let p = put_of a n s x count m w g.sound pr fi f in let v = view a m in let u = view a w in
    record {
      laid = record { fits = subst (λ (k : ℕ). base a + 7 * n ≤ k) (sym f.front.long) g.laid.fits; some = g.laid.some; few = g.laid.few; room = g.laid.room };
      sound = sound_put p;
      clear = λ i h. elim (ℕ_discrete i s) [
        | yes q ↦ let z = ap (tag a w) q ∙ f.tagged in let y = pr.most in omega arith
        | no q ↦ let z = f.beside i 0 (omega arith) q in let y = g.clear i h in omega arith
      ];
      counted = λ i d h. elim (ℕ_discrete i s) [
        | yes q ↦
            let st : x.state ≡ d + 2 = sym (state_here p) ∙ ap (λ (j : ℕ). (u j).state) (sym q) ∙ h.deep in
            ap (count_in a w) q ∙ f.counts ∙ c d st ∙ ap living (sym (square_here p d st)) ∙ ap (λ (j : ℕ). living (square_of u d j)) (sym q)
        | no q ↦
            let b = valid_back p q h in
            (λ k. f.beside i 5 (omega arith) q k + 2 ^ 64 * f.beside i 6 (omega arith) q k) ∙ g.counted i d b ∙ ap living (sym (square_put p d i b))
      ];
      notes = λ i k h b lo hi. elim (ℕ_discrete i s) [
        | yes q ↦ none_note (suc k) k i (word a w i h) (ap (λ (j : ℕ). word a w j h) q ∙ no_note h lo hi)
        | no q ↦ let z = valid_back p q b in subst (NoteRight n u k i) (sym (f.beside i h (omega arith) q)) (note_put p k i (word a m i h) z (g.notes i k h z lo hi))
      ];
      held = λ k h.
          let z : held_in a w k ≡ held_in a m k = f.front.front (a + k) (let r = g.laid.room in omega arith) in let b = g.held k h in
          subst (λ (j : ℕ). (j < n) × (2 ≤ (u j).state)) (sym z) (b.0, subst (λ (y : Node). 2 ≤ y.state) (sym (square_other p (held_in a m k) b.1)) b.1);
      left = let z = used_more v u s n fi.within fi.free (subst (λ (k : ℕ). 2 ≤ k) (sym (state_here p)) pr.some) p.others in let y = g.left in omega arith;
    }
  where
    no_note : (h : ℕ) → 3 ≤ h → h ≤ 4 → word a w s h ≡ 0
    no_note h lo hi = elim (ℕ_discrete h 3) [
      | yes e ↦ ap (word a w s) e ∙ f.leap
      | no e ↦ let z : h ≡ 4 = omega arith in ap (word a w s) z ∙ f.further
    ]

    none_note : (d p i c : ℕ) → c ≡ 0 → NoteRight n (view a w) p i c
    none_note d p i c e = record { right = λ k q l. absurd (omega arith) }

pub grows_put : (a n s : ℕ) (x : Node) (count : ℕ) (m w : List ℕ) → Sound n (view a m) → Proper n (view a m) x → Fit n (view a m) x s → Filled a s x count m w → GrowsAt a n m w
grows_put a n s x count m w so pr fi f = record { all = λ d i q h. is_put (put_of a n s x count m w so pr fi f) h }

pub full_left : (n : ℕ) (v : Table) (l : ℕ) → used v n + l ≡ limit n → l ≡ 0 → Full n v
full_left n v l e f = omega arith

pub full_all : (n : ℕ) (v : Table) → used v n ≡ n → Full n v
full_all n v e = omega arith

-- the node was there
pub is_old : (n : ℕ) (v : Table) (x : Node) (i : ℕ) → i < n → v i ≡ x → (d : ℕ) → x.state ≡ d + 2 → IsAt n v d i (square_in v d x)
unfolding square_of square_in
is_old n v x i l e zero f = record { valid = record { here = l; deep = ap (λ (y : Node). y.state) e ∙ f }; same = ap (λ (y : Node). word_square y.upper) e }
is_old n v x i l e (suc d) f = record {
  valid = record { here = l; deep = ap (λ (y : Node). y.state) e ∙ f };
  same = λ t. Four (square_of v d (first (e t).upper)) (square_of v d (second (e t).upper)) (square_of v d (first (e t).lower)) (square_of v d (second (e t).lower));
}
