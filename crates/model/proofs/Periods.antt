-- The period that is found is the least one, and where none is found there is none.
use Rattle.std.proofs.Common.{◌≡◌, ℕ, zero, suc, ◌+◌, ◌<◌, ◌≤◌, T, ltb, ◌⊎◌, List, [], ◌∷◌, ℤ, pos, ◌+ℤ◌, neg_ℤ, Some, None, Option, sym, refl, ap, ◌∙◌, subst, inl, inr, arith, ltb→lt, nltb→le, T_not}
use borrow.Author.Differences.{ints}
use Rattle.model.specs.declared.Period.{Period}
use Rattle.model.specs.Rules.{Rule}
use Rattle.model.specs.Cells.{Cell, cell_at, same_cell, same_cells, moved}
use Rattle.model.specs.Lists.{next_of, nexts}
use Rattle.model.specs.World.{returned, period_from}
use Rattle.model.specs.Promise.{PeriodRight}
use Rattle.model.proofs.Order.{and_l, and_r, and_in, decided, if_so, same_cell_out, same_cell_in}
use Rattle.model.proofs.Time.{nexts_last}

pub same_cells_lem : (cs ds : List Cell) → T (same_cells cs ds) → cs ≡ ds
unfolding same_cells
same_cells_lem [] [] t = refl
same_cells_lem [] (d ∷ ds) t = absurd t
same_cells_lem (c ∷ cs) [] t = absurd t
same_cells_lem (c ∷ cs) (d ∷ ds) t =
    let e = same_cell_out c d (and_l (same_cell c d) (same_cells cs ds) t) in
    let k = same_cells_lem cs ds (and_r (same_cell c d) (same_cells cs ds) t) in
    λ i. e i ∷ k i

pub same_cells_refl : (cs : List Cell) → T (same_cells cs cs)
unfolding same_cells
same_cells_refl [] = tt
same_cells_refl (c ∷ cs) = and_in (same_cell c c) (same_cells cs cs) (same_cell_in c c refl) (same_cells_refl cs)

-- the second list is not the first one moved
abbrev pub NotMoved : List Cell → List Cell → Type 0
NotMoved cs ds = (a b : ℤ) → ds ≡ moved a b cs → ⊥

abbrev pub period_of : ℕ → ℤ → ℤ → Option Period
period_of t a b = Some (record { t = t; dx = a; dy = b })

-- the first cells tell by how much a list was moved
from_first : (c d : Cell) (cs ds : List Cell) (a b : ℤ) → d ∷ ds ≡ moved a b (c ∷ cs) → (a ≡ d.x +ℤ neg_ℤ c.x) × (b ≡ d.y +ℤ neg_ℤ c.y)
unfolding moved
from_first c d cs ds a b e =
    let h : d ≡ cell_at (c.x +ℤ a) (c.y +ℤ b) = cc in
    let p : d.x ≡ c.x +ℤ a = ap (λ (z : Cell). z.x) h in
    let q : d.y ≡ c.y +ℤ b = ap (λ (z : Cell). z.y) h in
    (omega (arith, ints), omega (arith, ints))

pub returned_is : (t : ℕ) (cs ds : List Cell) (go : Option Period) →
    ((a : ℤ) × (b : ℤ) × (ds ≡ moved a b cs) × (returned t cs ds go ≡ period_of t a b)) ⊎ (NotMoved cs ds × (returned t cs ds go ≡ go))
unfolding moved
returned_is t [] [] go = inl (pos 0, pos 0, refl, refl)
returned_is t [] (d ∷ ds) go = inr (λ a b e. (let z : ◌≡◌ {A = ℕ} 0 1 = cc in omega arith), refl)
returned_is t (c ∷ cs) [] go = inr (λ a b e. (let z : ◌≡◌ {A = ℕ} 0 1 = cc in omega arith), refl)
returned_is t (c ∷ cs) (d ∷ ds) go =
    if_so P (same_cells (moved dx dy (c ∷ cs)) (d ∷ ds)) (period_of t dx dy) go
    (λ s. inl (dx, dy, sym (same_cells_lem (moved dx dy (c ∷ cs)) (d ∷ ds) s), refl))
    (λ s. inr (
      λ a b e.
          (let h = from_first c d cs ds a b e in
          T_not (same_cells (moved dx dy (c ∷ cs)) (d ∷ ds)) s
          (subst (λ (l : List Cell). T (same_cells l (d ∷ ds))) (e ∙ (λ i. moved (h.0 i) (h.1 i) (c ∷ cs))) (same_cells_refl (d ∷ ds)))),
      refl,
    ))
  where
    dx : ℤ
    dx = d.x +ℤ neg_ℤ c.x

    dy : ℤ
    dy = d.y +ℤ neg_ℤ c.y

    P : Option Period → Type 0
    P z = ((a : ℤ) × (b : ℤ) × (d ∷ ds ≡ moved a b (c ∷ cs)) × (z ≡ period_of t a b)) ⊎ (NotMoved (c ∷ cs) (d ∷ ds) × (z ≡ go))

pub period_unroll : (r : Rule) (t n : ℕ) (first last : List Cell) →
    period_from r t (suc n) first last ≡ returned t first (next_of r last) (period_from r (suc t) n first (next_of r last))
unfolding period_from
period_unroll r t n first last = refl

-- the same from the m-th generation on
unroll : (r : Rule) (m n : ℕ) (cs : List Cell) →
    period_from r (suc m) (suc n) cs (nexts r m cs) ≡
    returned (suc m) cs (nexts r (suc m) cs) (period_from r (suc (suc m)) n cs (nexts r (suc m) cs))
unroll r m n cs =
    period_unroll r (suc m) n cs (nexts r m cs) ∙
    (λ i. returned (suc m) cs (sym (nexts_last r m cs) i) (period_from r (suc (suc m)) n cs (sym (nexts_last r m cs) i)))

pub period_end : (r : Rule) (t : ℕ) (first last : List Cell) → period_from r t 0 first last ≡ None
unfolding period_from
period_end r t first last = refl

-- between m and u there is none, if there is none at m + 1 and none between that and u
between : (r : Rule) (m : ℕ) (cs : List Cell) (u : ℕ) → NotMoved cs (nexts r (suc m) cs) → m < u → (suc m < u → NotMoved cs (nexts r u cs)) → NotMoved cs (nexts r u cs)
between r m cs u g h f =
    elim (decided (ltb (suc m) u)) [
      | inl t ↦ f (ltb→lt (suc m) u t)
      | inr t ↦ let k = nltb→le (suc m) u t in let e : suc m ≡ u = omega arith in subst (λ (n : ℕ). NotMoved cs (nexts r n cs)) e g
    ]

pub found : (r : Rule) (n m : ℕ) (cs : List Cell) (s : ℕ) (a b : ℤ) → period_from r (suc m) n cs (nexts r m cs) ≡ period_of s a b →
    (m < s) × (s ≤ m + n) × (nexts r s cs ≡ moved a b cs) × ((u : ℕ) → m < u → u < s → NotMoved cs (nexts r u cs))
found r zero m cs s a b e = absurd (let n = period_end r (suc m) cs (nexts r m cs) in let z : ◌≡◌ {A = ℕ} 0 1 = cc in omega arith)
found r (suc n) m cs s a b e =
    elim (returned_is (suc m) cs (nexts r (suc m) cs) (period_from r (suc (suc m)) n cs (nexts r (suc m) cs))) [
      | inl h ↦ first h.0 h.1 h.2 (sym h.3 ∙ sym (unroll r m n cs) ∙ e)
      | inr h ↦ let k = found r n (suc m) cs s a b (sym h.1 ∙ sym (unroll r m n cs) ∙ e) in later h k
    ]
  where
    first : (dx dy : ℤ) → nexts r (suc m) cs ≡ moved dx dy cs → period_of (suc m) dx dy ≡ period_of s a b →
        (m < s) × (s ≤ m + suc n) × (nexts r s cs ≡ moved a b cs) × ((u : ℕ) → m < u → u < s → NotMoved cs (nexts r u cs))
    first dx dy k q =
        let w : ◌≡◌ {A = Period} (record { t = suc m; dx = dx; dy = dy }) (record { t = s; dx = a; dy = b }) = cc in
        let i : suc m ≡ s = ap (λ (z : Period). z.t) w in (
          omega arith,
          omega arith,
          subst (λ (z : Period). nexts r z.t cs ≡ moved z.dx z.dy cs) w k,
          λ u j l. absurd (omega arith),
        )

    later : NotMoved cs (nexts r (suc m) cs) × (returned (suc m) cs (nexts r (suc m) cs) (period_from r (suc (suc m)) n cs (nexts r (suc m) cs)) ≡ period_from r (suc (suc m)) n cs (nexts r (suc m) cs)) →
        (suc m < s) × (s ≤ suc m + n) × (nexts r s cs ≡ moved a b cs) × ((u : ℕ) → suc m < u → u < s → NotMoved cs (nexts r u cs)) →
        (m < s) × (s ≤ m + suc n) × (nexts r s cs ≡ moved a b cs) × ((u : ℕ) → m < u → u < s → NotMoved cs (nexts r u cs))
    later h k =
        let i = k.0 in let j = k.1 in
        (omega arith, omega arith, k.2, λ u p q. between r m cs u h.0 p (λ l. k.3 u l q))

pub not_found : (r : Rule) (n m : ℕ) (cs : List Cell) → period_from r (suc m) n cs (nexts r m cs) ≡ None →
    (u : ℕ) → m < u → u ≤ m + n → NotMoved cs (nexts r u cs)
not_found r zero m cs e u h k = absurd (omega arith)
not_found r (suc n) m cs e u h k =
    elim (returned_is (suc m) cs (nexts r (suc m) cs) (period_from r (suc (suc m)) n cs (nexts r (suc m) cs))) [
      | inl p ↦ absurd (let q : period_of (suc m) p.0 p.1 ≡ None = sym p.3 ∙ sym (unroll r m n cs) ∙ e in let z : ◌≡◌ {A = ℕ} 0 1 = cc in omega arith)
      | inr p ↦ between r m cs u p.0 h (λ l. not_found r n (suc m) cs (sym p.1 ∙ sym (unroll r m n cs) ∙ e) u l (omega arith))
    ]

pub period_right : PeriodRight
unfolding nexts
period_right bound w = (
  λ t dx dy e.
      let k = found w.rule bound 0 w.cells t dx dy e in
      let i = k.1 in
      (k.0, omega arith, k.2, λ s a b p q. k.3 s p q a b),
  λ e s a b p q. not_found w.rule bound 0 w.cells e s p (omega arith) a b,
)
