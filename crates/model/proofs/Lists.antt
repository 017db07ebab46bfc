-- The next generation of a list is that of its plane: nothing lives outside the box that is one larger.
use Rattle.std.proofs.Common.{◌≡◌, ℕ, zero, suc, ◌+◌, Bool, true, false, cond, not, ◌&&◌, T, eqb, ◌⊎◌, List, [], ◌∷◌, ◌++◌, length, ℤ, pos, ◌+ℤ◌, ◌≤ℤ◌, ◌<ℤ◌, sym, refl, ap, ◌∙◌, subst, inl, inr, arith, T_not}
use borrow.Author.Differences.{ints}
use Rattle.model.specs.declared.Bounds.{Bounds}
use Rattle.model.specs.Planes.{Plane, back, ahead, always, step, steps}
use Rattle.model.specs.Rules.{Rule, good_rule, nth, life}
use Rattle.model.specs.Cells.{Cell, cell_at, same_z, before, in_order, lives, plane_of, lesser, greater, box_of}
use Rattle.model.specs.Lists.{span, row_of, rows_of, next_of, nexts}
use Rattle.model.proofs.Order.{bool_same, and_r, decided, same_z_out, lives_out, lives_head, lives_tail, lives_none, lives_cell, order_tail, order_after, order_in}

pub lives-++ : (x y : ℤ) (cs ds : List Cell) → T (lives x y (cs ++ ds)) → T (lives x y cs) ⊎ T (lives x y ds)
lives-++ x y [] ds t = inr t
lives-++ x y (c ∷ cs) ds t =
    elim (lives_out x y c (cs ++ ds) t) [
      | inl e ↦ inl (lives_cell (cell_at x y) c cs e)
      | inr h ↦ elim (lives-++ x y cs ds h) [ inl k ↦ inl (lives_tail x y c cs k) | inr k ↦ inr k ]
    ]

pub lives-++l : (x y : ℤ) (cs ds : List Cell) → T (lives x y cs) → T (lives x y (cs ++ ds))
lives-++l x y [] ds t = absurd (lives_none x y t)
lives-++l x y (c ∷ cs) ds t =
    elim (lives_out x y c cs t) [ inl e ↦ lives_cell (cell_at x y) c (cs ++ ds) e | inr h ↦ lives_tail x y c (cs ++ ds) (lives-++l x y cs ds h) ]

pub lives-++r : (x y : ℤ) (cs ds : List Cell) → T (lives x y ds) → T (lives x y (cs ++ ds))
lives-++r x y [] ds t = t
lives-++r x y (c ∷ cs) ds t = lives_tail x y c (cs ++ ds) (lives-++r x y cs ds t)

pub order-++ : (cs ds : List Cell) → T (in_order cs) → T (in_order ds) →
    ((x y u v : ℤ) → T (lives x y cs) → T (lives u v ds) → T (before (cell_at x y) (cell_at u v))) → T (in_order (cs ++ ds))
order-++ [] ds o q f = q
order-++ (c ∷ cs) ds o q f =
    order_in c (cs ++ ds)
    (λ x y t. elim (lives-++ x y cs ds t) [ inl h ↦ order_after c cs x y o h | inr h ↦ f c.x c.y x y (lives_head c cs) h ])
    (order-++ cs ds (order_tail c cs o) q (λ x y u v s t. f x y u v (lives_tail x y c cs s) t))

-- u is one of the n numbers from x on
abbrev pub Of : ℤ → ℕ → ℤ → Type 0
Of x n u = (x ≤ℤ u) × (u <ℤ (x +ℤ pos n))

pub of_split : (x u : ℤ) (n : ℕ) → Of x (suc n) u → (u ≡ x) ⊎ Of (ahead x) n u
of_split x u n h =
    elim (decided (same_z u x)) [ inl t ↦ inl (same_z_out u x t) | inr t ↦ inr (later x u n h t) ]
  where
    later : (x u : ℤ) (n : ℕ) → Of x (suc n) u → T (not (same_z u x)) → Of (ahead x) n u
    later x u n h t = (grind (arith, ints), grind (arith, ints))

of_none : (x u : ℤ) → Of x 0 u → ⊥
of_none x u h = omega (arith, ints)

of_first : (x : ℤ) (n : ℕ) → Of x (suc n) x
of_first x n = (omega (arith, ints), omega (arith, ints))

of_more : (x u : ℤ) (n : ℕ) → Of (ahead x) n u → Of x (suc n) u
of_more x u n h = (omega (arith, ints), omega (arith, ints))

kept : (b : Bool) (c : Cell) (cs : List Cell) (u v : ℤ) → T (lives u v (cond b (c ∷ cs) cs)) → (T b × (cell_at u v ≡ c)) ⊎ T (lives u v cs)
kept true c cs u v t = elim (lives_out u v c cs t) [ inl e ↦ inl (tt, e) | inr h ↦ inr h ]
kept false c cs u v t = inr t

kept_head : (b : Bool) (c : Cell) (cs : List Cell) → T b → T (lives c.x c.y (cond b (c ∷ cs) cs))
kept_head true c cs t = lives_head c cs
kept_head false c cs t = absurd t

kept_tail : (b : Bool) (c : Cell) (cs : List Cell) (u v : ℤ) → T (lives u v cs) → T (lives u v (cond b (c ∷ cs) cs))
kept_tail true c cs u v t = lives_tail u v c cs t
kept_tail false c cs u v t = t

kept_order : (b : Bool) (c : Cell) (cs : List Cell) → ((x y : ℤ) → T (lives x y cs) → T (before c (cell_at x y))) → T (in_order cs) →
    T (in_order (cond b (c ∷ cs) cs))
kept_order true c cs f o = order_in c cs f o
kept_order false c cs f o = o

pub row_in : (p : Plane Bool) (x y : ℤ) (n : ℕ) (u v : ℤ) → T (lives u v (row_of p x y n)) → (v ≡ y) × Of x n u × T (p u v)
unfolding row_of
row_in p x y zero u v t = absurd (lives_none u v t)
row_in p x y (suc n) u v t =
    elim (kept (p x y) (cell_at x y) (row_of p (ahead x) y n) u v t) [
      | inl h ↦ (ap (λ (c : Cell). c.y) h.1, subst (λ (c : Cell). Of x (suc n) c.x) (sym h.1) (of_first x n), subst (λ (c : Cell). T (p c.x c.y)) (sym h.1) h.0)
      | inr h ↦ let k = row_in p (ahead x) y n u v h in (k.0, of_more x u n k.1, k.2)
    ]

pub row_has : (p : Plane Bool) (x y : ℤ) (n : ℕ) (u : ℤ) → Of x n u → T (p u y) → T (lives u y (row_of p x y n))
unfolding row_of
row_has p x y zero u h t = absurd (of_none x u h)
row_has p x y (suc n) u h t =
    elim (of_split x u n h) [
      | inl e ↦ subst (λ (z : ℤ). T (lives z y (row_of p x y (suc n)))) (sym e) (kept_head (p x y) (cell_at x y) (row_of p (ahead x) y n) (subst (λ (z : ℤ). T (p z y)) e t))
      | inr k ↦ kept_tail (p x y) (cell_at x y) (row_of p (ahead x) y n) u y (row_has p (ahead x) y n u k t)
    ]

beside : (x y u v : ℤ) (n : ℕ) → v ≡ y → Of (ahead x) n u → T (before (cell_at x y) (cell_at u v))
beside x y u v n e h = grind (arith, ints)

pub row_order : (p : Plane Bool) (x y : ℤ) (n : ℕ) → T (in_order (row_of p x y n))
unfolding row_of in_order
row_order p x y zero = tt
row_order p x y (suc n) =
    kept_order (p x y) (cell_at x y) (row_of p (ahead x) y n)
    (λ u v t. let k = row_in p (ahead x) y n u v t in beside x y u v n k.0 k.1) (row_order p (ahead x) y n)

pub rows_in : (p : Plane Bool) (x : ℤ) (w : ℕ) (y : ℤ) (n : ℕ) (u v : ℤ) → T (lives u v (rows_of p x w y n)) → Of x w u × Of y n v × T (p u v)
unfolding rows_of
rows_in p x w y zero u v t = absurd (lives_none u v t)
rows_in p x w y (suc n) u v t =
    elim (lives-++ u v (row_of p x y w) (rows_of p x w (ahead y) n) t) [
      | inl h ↦ let k = row_in p x y w u v h in (k.1, subst (λ (z : ℤ). Of y (suc n) z) (sym k.0) (of_first y n), k.2)
      | inr h ↦ let k = rows_in p x w (ahead y) n u v h in (k.0, of_more y v n k.1, k.2)
    ]

pub rows_has : (p : Plane Bool) (x : ℤ) (w : ℕ) (y : ℤ) (n : ℕ) (u v : ℤ) → Of x w u → Of y n v → T (p u v) → T (lives u v (rows_of p x w y n))
unfolding rows_of
rows_has p x w y zero u v h k t = absurd (of_none y v k)
rows_has p x w y (suc n) u v h k t =
    elim (of_split y v n k) [
      | inl e ↦ lives-++l u v (row_of p x y w) (rows_of p x w (ahead y) n)
          (subst (λ (z : ℤ). T (lives u z (row_of p x y w))) (sym e) (row_has p x y w u h (subst (λ (z : ℤ). T (p u z)) e t)))
      | inr j ↦ lives-++r u v (row_of p x y w) (rows_of p x w (ahead y) n) (rows_has p x w (ahead y) n u v h j t)
    ]

above : (x y u v : ℤ) (y₀ : ℤ) (n : ℕ) → y ≡ y₀ → Of (ahead y₀) n v → T (before (cell_at x y) (cell_at u v))
above x y u v y₀ n e h = grind (arith, ints)

pub rows_order : (p : Plane Bool) (x : ℤ) (w : ℕ) (y : ℤ) (n : ℕ) → T (in_order (rows_of p x w y n))
unfolding rows_of in_order
rows_order p x w y zero = tt
rows_order p x w y (suc n) =
    order-++ (row_of p x y w) (rows_of p x w (ahead y) n) (row_order p x y w) (rows_order p x w (ahead y) n)
    (λ a b u v s t. above a b u v y n (row_in p x y w a b s).0 (rows_in p x w (ahead y) n u v t).1)

-- the cell x, y lies in the box
abbrev pub In : Bounds → ℤ → ℤ → Type 0
In k x y = (k.left ≤ℤ x) × (x ≤ℤ k.right) × (k.top ≤ℤ y) × (y ≤ℤ k.bottom)

pub lesser_l : (a b : ℤ) → lesser a b ≤ℤ a
lesser_l a b = grind (arith, ints)

pub lesser_r : (a b z : ℤ) → b ≤ℤ z → lesser a b ≤ℤ z
lesser_r a b z h = grind (arith, ints)

pub greater_l : (a b : ℤ) → a ≤ℤ greater a b
greater_l a b = grind (arith, ints)

pub greater_r : (a b z : ℤ) → z ≤ℤ b → z ≤ℤ greater a b
greater_r a b z h = grind (arith, ints)

pub le_z_refl : (a : ℤ) → a ≤ℤ a
le_z_refl a = omega (arith, ints)

box_wider : (d : Cell) (k : Bounds) (x y : ℤ) → In k x y →
    In (record { left = lesser d.x k.left; top = lesser d.y k.top; right = greater d.x k.right; bottom = greater d.y k.bottom }) x y
box_wider d k x y h =
    (lesser_r d.x k.left x h.0, greater_r d.x k.right x h.1, lesser_r d.y k.top y h.2, greater_r d.y k.bottom y h.3)

box_here : (c : Cell) (cs : List Cell) → In (box_of c cs) c.x c.y
unfolding box_of
box_here c [] = (le_z_refl c.x, le_z_refl c.x, le_z_refl c.y, le_z_refl c.y)
box_here c (d ∷ cs) = box_wider d (box_of c cs) c.x c.y (box_here c cs)

box_rest : (c : Cell) (cs : List Cell) (x y : ℤ) → T (lives x y cs) → In (box_of c cs) x y
unfolding box_of
box_rest c [] x y t = absurd (lives_none x y t)
box_rest c (d ∷ cs) x y t =
    elim (lives_out x y d cs t) [
      | inl e ↦ subst (λ (z : Cell). In (box_of c (d ∷ cs)) z.x z.y) (sym e)
          (lesser_l d.x (box_of c cs).left, greater_l d.x (box_of c cs).right, lesser_l d.y (box_of c cs).top, greater_l d.y (box_of c cs).bottom)
      | inr h ↦ box_wider d (box_of c cs) x y (box_rest c cs x y h)
    ]

pub box_in : (c : Cell) (cs : List Cell) (x y : ℤ) → T (lives x y (c ∷ cs)) → In (box_of c cs) x y
box_in c cs x y t =
    elim (lives_out x y c cs t) [
      | inl e ↦ subst (λ (z : Cell). In (box_of c cs) z.x z.y) (sym e) (box_here c cs)
      | inr h ↦ box_rest c cs x y h
    ]

pub span_reach : (a b : ℤ) → ahead b ≤ℤ (a +ℤ pos (span a b))
span_reach a b = grind (arith, ints)

pub none_born : (r : Rule) → T (good_rule r) → T (nth 0 r.born) → ⊥
none_born r g t = T_not (nth 0 r.born) (and_r (eqb (length r.born) 9 && eqb (length r.stays) 9) (not (nth 0 r.born)) g) t

-- a cell that will live has a living cell among the nine
pick : {Z : Type 0} (r : Rule) → T (good_rule r) → (a b c d e f g h k : Bool) → T (life r a b c d e f g h k) →
    (T a → Z) → (T b → Z) → (T c → Z) → (T d → Z) → (T e → Z) → (T f → Z) → (T g → Z) → (T h → Z) → (T k → Z) → Z
pick r q true b c d e f g h k t z1 z2 z3 z4 z5 z6 z7 z8 z9 = z1 tt
pick r q false true c d e f g h k t z1 z2 z3 z4 z5 z6 z7 z8 z9 = z2 tt
pick r q false false true d e f g h k t z1 z2 z3 z4 z5 z6 z7 z8 z9 = z3 tt
pick r q false false false true e f g h k t z1 z2 z3 z4 z5 z6 z7 z8 z9 = z4 tt
pick r q false false false false true f g h k t z1 z2 z3 z4 z5 z6 z7 z8 z9 = z5 tt
pick r q false false false false false true g h k t z1 z2 z3 z4 z5 z6 z7 z8 z9 = z6 tt
pick r q false false false false false false true h k t z1 z2 z3 z4 z5 z6 z7 z8 z9 = z7 tt
pick r q false false false false false false false true k t z1 z2 z3 z4 z5 z6 z7 z8 z9 = z8 tt
pick r q false false false false false false false false true t z1 z2 z3 z4 z5 z6 z7 z8 z9 = z9 tt
pick r q false false false false false false false false false t z1 z2 z3 z4 z5 z6 z7 z8 z9 = absurd (none_born r q t)

-- u is x or next to it
abbrev pub By : ℤ → ℤ → Type 0
By x u = (back x ≤ℤ u) × (u ≤ℤ ahead x)

pub by_back : (x : ℤ) → By x (back x)
by_back x = (omega (arith, ints), omega (arith, ints))

pub by_same : (x : ℤ) → By x x
by_same x = (omega (arith, ints), omega (arith, ints))

pub by_ahead : (x : ℤ) → By x (ahead x)
by_ahead x = (omega (arith, ints), omega (arith, ints))

pub comes_of : (r : Rule) → T (good_rule r) → (p : Plane Bool) (x y : ℤ) → T (step (life r) p x y) → (u : ℤ) × (v : ℤ) × T (p u v) × By x u × By y v
comes_of r g p x y t =
    pick r g (p (back x) (back y)) (p x (back y)) (p (ahead x) (back y)) (p (back x) y) (p x y) (p (ahead x) y) (p (back x) (ahead y)) (p x (ahead y)) (p (ahead x) (ahead y)) t
    (λ h. (back x, back y, h, by_back x, by_back y)) (λ h. (x, back y, h, by_same x, by_back y)) (λ h. (ahead x, back y, h, by_ahead x, by_back y))
    (λ h. (back x, y, h, by_back x, by_same y)) (λ h. (x, y, h, by_same x, by_same y)) (λ h. (ahead x, y, h, by_ahead x, by_same y))
    (λ h. (back x, ahead y, h, by_back x, by_ahead y)) (λ h. (x, ahead y, h, by_same x, by_ahead y)) (λ h. (ahead x, ahead y, h, by_ahead x, by_ahead y))

grown : (l r u x : ℤ) → l ≤ℤ u → u ≤ℤ r → By x u → Of (back l) (span l r + 2) x
grown l r u x h k b = let s = span_reach l r in (omega (arith, ints), omega (arith, ints))

pub next_order : (r : Rule) (cs : List Cell) → T (in_order (next_of r cs))
unfolding in_order
next_order r [] = tt
next_order r (c ∷ cs) =
    let k = box_of c cs in
    rows_order (step (life r) (plane_of (c ∷ cs))) (back k.left) (span k.left k.right + 2) (back k.top) (span k.top k.bottom + 2)

next_has : (r : Rule) → T (good_rule r) → (cs : List Cell) (x y : ℤ) → T (step (life r) (plane_of cs) x y) → T (lives x y (next_of r cs))
next_has r g [] x y t = let (u, v, h, a, b) = comes_of r g (plane_of []) x y t in absurd (lives_none u v h)
next_has r g (c ∷ cs) x y t =
    let (u, v, h, a, b) = comes_of r g (plane_of (c ∷ cs)) x y t in
    let k = box_of c cs in
    let i = box_in c cs u v h in
    rows_has (step (life r) (plane_of (c ∷ cs))) (back k.left) (span k.left k.right + 2) (back k.top) (span k.top k.bottom + 2) x y
    (grown k.left k.right u x i.0 i.1 a) (grown k.top k.bottom v y i.2 i.3 b) t

next_in_lem : (r : Rule) (cs : List Cell) (x y : ℤ) → T (lives x y (next_of r cs)) → T (step (life r) (plane_of cs) x y)
next_in_lem r [] x y t = absurd (lives_none x y t)
next_in_lem r (c ∷ cs) x y t =
    let k = box_of c cs in
    (rows_in (step (life r) (plane_of (c ∷ cs))) (back k.left) (span k.left k.right + 2) (back k.top) (span k.top k.bottom + 2) x y t).2

pub next_lives : (r : Rule) → T (good_rule r) → (cs : List Cell) (x y : ℤ) → lives x y (next_of r cs) ≡ step (life r) (plane_of cs) x y
next_lives r g cs x y = bool_same _ _ (next_in_lem r cs x y) (next_has r g cs x y)

pub nexts_order : (r : Rule) (n : ℕ) (cs : List Cell) → T (in_order cs) → T (in_order (nexts r n cs))
unfolding nexts
nexts_order r zero cs o = o
nexts_order r (suc n) cs o = nexts_order r n (next_of r cs) (next_order r cs)

pub nexts_lives : (r : Rule) → T (good_rule r) → (n : ℕ) (cs : List Cell) (x y : ℤ) → lives x y (nexts r n cs) ≡ steps (always (life r)) n (plane_of cs) x y
unfolding nexts steps
nexts_lives r g zero cs x y = refl
nexts_lives r g (suc n) cs x y = nexts_lives r g n (next_of r cs) x y ∙ (λ i. steps (always (life r)) n (λ u v. next_lives r g cs u v i) x y)
