-- Where a plane agrees with a square, and with the squares that are cut out of it or put together.
use Rattle.std.proofs.Common.{◌≡◌, ℕ, suc, ◌+◌, ◌-◌, ◌^◌, ◌<◌, ◌&&◌, T, ltb, ◌⊎◌, pos, sym, refl, ◌∙◌, subst, inl, inr, arith, ltb→lt, nltb→le}
use Rattle.model.specs.Planes.{Plane}
use Rattle.model.specs.Squares.{Square, Leaf, Four, level, nw, ne, sw, se, state_at, core, beside, below, middle, Shows}
use Rattle.model.proofs.Order.{and_l, and_r, and_in, decided}

-- the square s has level k, and the plane p agrees with it where its corner is at i, j
pub record At {S : Type 0} (k : ℕ) (s : Square S) (p : Plane S) (i j : ℕ) : Type 0 where
  pub lev : T (level k s)
  pub at : (x y : ℕ) → x < 2 ^ k → y < 2 ^ k → p (pos (i + x)) (pos (j + y)) ≡ state_at k s x y

pub state_nw : {S : Type 0} (k : ℕ) (a b c d : Square S) (x y : ℕ) → x < 2 ^ k → y < 2 ^ k → state_at (suc k) (Four a b c d) x y ≡ state_at k a x y
unfolding state_at
state_nw k a b c d x y h g = grind arith

pub state_ne : {S : Type 0} (k : ℕ) (a b c d : Square S) (x y : ℕ) → y < 2 ^ k → state_at (suc k) (Four a b c d) (2 ^ k + x) y ≡ state_at k b x y
unfolding state_at
state_ne k a b c d x y g = let e : 2 ^ k + x - 2 ^ k ≡ x = omega arith in grind arith

pub state_sw : {S : Type 0} (k : ℕ) (a b c d : Square S) (x y : ℕ) → x < 2 ^ k → state_at (suc k) (Four a b c d) x (2 ^ k + y) ≡ state_at k c x y
unfolding state_at
state_sw k a b c d x y h = let e : 2 ^ k + y - 2 ^ k ≡ y = omega arith in grind arith

pub state_se : {S : Type 0} (k : ℕ) (a b c d : Square S) (x y : ℕ) → state_at (suc k) (Four a b c d) (2 ^ k + x) (2 ^ k + y) ≡ state_at k d x y
unfolding state_at
state_se k a b c d x y = let e : 2 ^ k + x - 2 ^ k ≡ x = omega arith in let f : 2 ^ k + y - 2 ^ k ≡ y = omega arith in grind arith

pub move : {S : Type 0} {k : ℕ} {s : Square S} {p : Plane S} {i j i' j' : ℕ} → At k s p i j → i ≡ i' → j ≡ j' → At k s p i' j'
move {k = k} {s = s} {p = p} {j = j} {i' = i'} h e f = subst (λ (z : ℕ). At k s p i' z) f (subst (λ (z : ℕ). At k s p z j) e h)

-- a coordinate lies in the first half or in the second
pub half : (k x : ℕ) → x < 2 ^ suc k → (x < 2 ^ k) ⊎ ((u : ℕ) × (u < 2 ^ k) × (x ≡ 2 ^ k + u))
half k x h =
    elim (decided (ltb x (2 ^ k))) [
      | inl t ↦ inl (ltb→lt x (2 ^ k) t)
      | inr t ↦ let g = nltb→le x (2 ^ k) t in inr (x - 2 ^ k, omega arith, omega arith)
    ]

pub level_four : {S : Type 0} (k : ℕ) (a b c d : Square S) → T (level k a) → T (level k b) → T (level k c) → T (level k d) → T (level (suc k) (Four a b c d))
unfolding level
level_four k a b c d f g h i =
    and_in (level k a) (level k b && (level k c && level k d)) f (and_in (level k b) (level k c && level k d) g (and_in (level k c) (level k d) h i))

pub four : {S : Type 0} {k : ℕ} {a b c d : Square S} {p : Plane S} {i j : ℕ} →
    At k a p i j → At k b p (i + 2 ^ k) j → At k c p i (j + 2 ^ k) → At k d p (i + 2 ^ k) (j + 2 ^ k) → At (suc k) (Four a b c d) p i j
four {S = S} {k = k} {a = a} {b = b} {c = c} {d = d} {p = p} {i = i} {j = j} qa qb qc qd = record {
  lev = level_four k a b c d qa.lev qb.lev qc.lev qd.lev;
  at = λ x y f g.
      elim (half k x f) [
        | inl h ↦ elim (half k y g) [
          | inl t ↦ qa.at x y h t ∙ sym (state_nw k a b c d x y h t)
          | inr t ↦
              let e : j + y ≡ j + 2 ^ k + t.0 = let z = t.2 in omega arith in
              (λ m. p (pos (i + x)) (pos (e m))) ∙ qc.at x t.0 h t.1 ∙ sym (state_sw k a b c d x t.0 h) ∙ (λ m. state_at (suc k) (Four a b c d) x (sym t.2 m))
        ]
        | inr h ↦
            let e : i + x ≡ i + 2 ^ k + h.0 = let z = h.2 in omega arith in
            elim (half k y g) [
              | inl t ↦ (λ m. p (pos (e m)) (pos (j + y))) ∙ qb.at h.0 y h.1 t ∙ sym (state_ne k a b c d h.0 y t) ∙ (λ m. state_at (suc k) (Four a b c d) (sym h.2 m) y)
              | inr t ↦
                  let o : j + y ≡ j + 2 ^ k + t.0 = let z = t.2 in omega arith in
                  (λ m. p (pos (e m)) (pos (o m))) ∙ qd.at h.0 t.0 h.1 t.1 ∙ sym (state_se k a b c d h.0 t.0) ∙
                  (λ m. state_at (suc k) (Four a b c d) (sym h.2 m) (sym t.2 m))
            ]
      ];
}

pub record Quarters {S : Type 0} (k : ℕ) (s : Square S) (p : Plane S) (i j : ℕ) : Type 0 where
  pub qnw : At k (nw s) p i j
  pub qne : At k (ne s) p (i + 2 ^ k) j
  pub qsw : At k (sw s) p i (j + 2 ^ k)
  pub qse : At k (se s) p (i + 2 ^ k) (j + 2 ^ k)

pub record Levels {S : Type 0} (k : ℕ) (s : Square S) : Type 0 where
  pub lnw : T (level k (nw s))
  pub lne : T (level k (ne s))
  pub lsw : T (level k (sw s))
  pub lse : T (level k (se s))

pub levels : {S : Type 0} (k : ℕ) (s : Square S) → T (level (suc k) s) → Levels k s
unfolding level
levels k (Leaf a) t = absurd t
levels k (Four a b c d) t =
    let u = and_r (level k a) (level k b && (level k c && level k d)) t in
    let v = and_r (level k b) (level k c && level k d) u in
    record {
      lnw = and_l (level k a) (level k b && (level k c && level k d)) t;
      lne = and_l (level k b) (level k c && level k d) u;
      lsw = and_l (level k c) (level k d) v;
      lse = and_r (level k c) (level k d) v;
    }

no_leaf : {S : Type 0} (k : ℕ) (a : S) → T (level (suc k) (Leaf a)) → ⊥
unfolding level
no_leaf k a t = t

pub quarters : {S : Type 0} {k : ℕ} {s : Square S} {p : Plane S} {i j : ℕ} → At (suc k) s p i j → Quarters k s p i j
quarters {k = k} {s = Leaf a} q = absurd (no_leaf k a q.lev)
quarters {k = k} {s = Four a b c d} {p = p} {i = i} {j = j} q =
    let l = levels k (Four a b c d) q.lev in
    record {
      qnw = record { lev = l.lnw; at = λ x y h g. q.at x y (omega arith) (omega arith) ∙ state_nw k a b c d x y h g };
      qne = record {
        lev = l.lne;
        at = λ x y h g.
            let e : i + 2 ^ k + x ≡ i + (2 ^ k + x) = omega arith in
            (λ m. p (pos (e m)) (pos (j + y))) ∙ q.at (2 ^ k + x) y (omega arith) (omega arith) ∙ state_ne k a b c d x y g;
      };
      qsw = record {
        lev = l.lsw;
        at = λ x y h g.
            let e : j + 2 ^ k + y ≡ j + (2 ^ k + y) = omega arith in
            (λ m. p (pos (i + x)) (pos (e m))) ∙ q.at x (2 ^ k + y) (omega arith) (omega arith) ∙ state_sw k a b c d x y h;
      };
      qse = record {
        lev = l.lse;
        at = λ x y h g.
            let e : i + 2 ^ k + x ≡ i + (2 ^ k + x) = omega arith in
            let f : j + 2 ^ k + y ≡ j + (2 ^ k + y) = omega arith in
            (λ m. p (pos (e m)) (pos (f m))) ∙ q.at (2 ^ k + x) (2 ^ k + y) (omega arith) (omega arith) ∙ state_se k a b c d x y;
      };
    }

pub beside_at : {S : Type 0} {k : ℕ} {a b : Square S} {p : Plane S} {i j : ℕ} →
    At (suc k) a p i j → At (suc k) b p (i + 2 ^ suc k) j → At (suc k) (beside a b) p (i + 2 ^ k) j
beside_at qa qb =
    let u = quarters qa in let v = quarters qb in
    four u.qne (move v.qnw (omega arith) refl) u.qse (move v.qsw (omega arith) refl)

pub below_at : {S : Type 0} {k : ℕ} {a b : Square S} {p : Plane S} {i j : ℕ} →
    At (suc k) a p i j → At (suc k) b p i (j + 2 ^ suc k) → At (suc k) (below a b) p i (j + 2 ^ k)
below_at qa qb =
    let u = quarters qa in let v = quarters qb in
    four u.qsw u.qse (move v.qnw refl (omega arith)) (move v.qne refl (omega arith))

pub middle_at : {S : Type 0} {k : ℕ} {s : Square S} {p : Plane S} {i j : ℕ} → At (suc (suc k)) s p i j → At (suc k) (middle s) p (i + 2 ^ k) (j + 2 ^ k)
middle_at q =
    let u = quarters q in
    four (quarters u.qnw).qse (move (quarters u.qne).qsw (omega arith) refl) (move (quarters u.qsw).qne refl (omega arith)) (move (quarters u.qse).qnw (omega arith) (omega arith))

-- the state of a single cell
pub core_of : {S : Type 0} {s : Square S} {p : Plane S} {i j i' j' : ℕ} → At 0 s p i j → i ≡ i' → j ≡ j' → p (pos i') (pos j') ≡ core s
core_of {p = p} {i = i} {j = j} {i' = i'} {j' = j'} q e f =
    let g : i' ≡ i + 0 = omega arith in let h : j' ≡ j + 0 = omega arith in
    (λ m. p (pos (g m)) (pos (h m))) ∙ q.at 0 0 (omega arith) (omega arith)

leaf_state : {S : Type 0} (a : S) (k x y : ℕ) → state_at k (Leaf a) x y ≡ a
unfolding state_at
leaf_state a k x y = refl

leaf_level : {S : Type 0} (a : S) → T (level 0 (Leaf a))
unfolding level
leaf_level a = tt

pub leaf_at : {S : Type 0} {a : S} {p : Plane S} {i j i' j' : ℕ} → p (pos i') (pos j') ≡ a → i' ≡ i → j' ≡ j → At 0 (Leaf a) p i j
leaf_at {a = a} {p = p} {i = i} {j = j} {i' = i'} {j' = j'} q e f = record {
  lev = leaf_level a;
  at = λ x y h g.
      let u : i + x ≡ i' = omega arith in let v : j + y ≡ j' = omega arith in
      (λ m. p (pos (u m)) (pos (v m))) ∙ q ∙ sym (leaf_state a 0 x y);
}

pub at_shows : {S : Type 0} {k : ℕ} {s : Square S} {p : Plane S} → T (level k s) → Shows k s p → At k s p 0 0
at_shows {p = p} l f = record {
  lev = l;
  at = λ x y h g. let u : 0 + x ≡ x = omega arith in let v : 0 + y ≡ y = omega arith in (λ m. p (pos (u m)) (pos (v m))) ∙ f x y h g;
}
