-- The list that is made, up to a cell: one more cell, or cells passed over that don't live.
use Rattle.std.proofs.Common.{◌≡◌, ◌≤◌, Bool, true, false, not, ◌&&◌, T, ◌⊎◌, List, [], ◌∷◌, ◌++◌, length, ℤ, ◌≤ℤ◌, ◌<ℤ◌, sym, ap, ◌∙◌, subst, inl, inr, arith}
use borrow.Author.Differences.{ints}
use lib.Signed.{le_z}
use Rattle.model.specs.Planes.{Plane, ahead, step}
use Rattle.model.specs.Rules.{Rule, good_rule, life}
use Rattle.model.specs.declared.Cell.{Cell}
use Rattle.model.specs.Cells.{cell_at, before, in_order, lives, plane_of}
use Rattle.model.specs.Lists.{next_of}
use Rattle.model.proofs.Order.{bool_same, decided, and_l, and_r, and_in, before_trans, before_irrefl, before_tri, lives_out, lives_head, lives_tail, lives_none, order_tail, order_after, lists_same}
use Rattle.model.proofs.Lists.{lives-++, lives-++l, lives-++r, order-++, next_order, next_lives}
use Rattle.generation.specs.Scan.{Done}

-- the order by coordinates
pub before_out : (x y a b : ℤ) → T (before (cell_at x y) (cell_at a b)) → (y <ℤ b) ⊎ ((y ≡ b) × (x <ℤ a))
before_out x y a b t = grind (arith, ints)

pub before_row : (x y a b : ℤ) → y <ℤ b → T (before (cell_at x y) (cell_at a b))
before_row x y a b l = grind (arith, ints)

pub before_column : (x y a b : ℤ) → y ≡ b → x <ℤ a → T (before (cell_at x y) (cell_at a b))
before_column x y a b e l = grind (arith, ints)

pub le_or : (x a : ℤ) → (a ≤ℤ x) ⊎ (x <ℤ a)
le_or x a = elim (decided (le_z a x)) [ inl t ↦ inl (omega (arith, ints)) | inr t ↦ inr (other t) ]
  where
    other : T (not (le_z a x)) → x <ℤ a
    other t = grind (arith, ints)

done_past : (q : Plane Bool) (out : List Cell) (c : Cell) → Done q out c → (x y : ℤ) → T (lives x y out) → T (before (cell_at x y) c) × T (q x y)
done_past q out c d x y t = let s = subst T (d.each x y) t in (and_l (before (cell_at x y) c) (q x y) s, and_r (before (cell_at x y) c) (q x y) s)

done_has : (q : Plane Bool) (out : List Cell) (c : Cell) → Done q out c → (x y : ℤ) → T (before (cell_at x y) c) → T (q x y) → T (lives x y out)
done_has q out c d x y b t = subst T (sym (d.each x y)) (and_in _ _ b t)

-- up to a later cell, with none living between
pub done_skip : (q : Plane Bool) (out : List Cell) (c c' : Cell) → Done q out c → ((x y : ℤ) → T (before (cell_at x y) c) → T (before (cell_at x y) c')) →
    ((x y : ℤ) → T (before (cell_at x y) c') → T (q x y) → T (before (cell_at x y) c)) → Done q out c'
done_skip q out c c' d up none =
    record {
      ordered = d.ordered;
      each = λ x y. bool_same _ _
          (λ t. let p = done_past q out c d x y t in and_in _ _ (up x y p.0) p.1)
          (λ t. let b = and_l (before (cell_at x y) c') (q x y) t in let l = and_r (before (cell_at x y) c') (q x y) t in done_has q out c d x y (none x y b l) l);
    }

-- the cell to the right comes next
step_out : (c : Cell) (x y : ℤ) → T (before (cell_at x y) (cell_at (ahead c.x) c.y)) → T (before (cell_at x y) c) ⊎ (cell_at x y ≡ c)
step_out c x y t =
    elim (before_tri (cell_at x y) c) [
      | inl b ↦ inl b
      | inr r ↦ elim r [ inl e ↦ inr e | inr b ↦ absurd (gap c x y t b) ]
    ]
  where
    gap : (c : Cell) (x y : ℤ) → T (before (cell_at x y) (cell_at (ahead c.x) c.y)) → T (before c (cell_at x y)) → ⊥
    gap c x y s t = grind (arith, ints)

step_in : (c : Cell) (x y : ℤ) → T (before (cell_at x y) c) → T (before (cell_at x y) (cell_at (ahead c.x) c.y))
step_in c x y t = grind (arith, ints)

step_own : (c : Cell) → T (before c (cell_at (ahead c.x) c.y))
step_own c = grind (arith, ints)

pub done_hold : (q : Plane Bool) (out : List Cell) (c : Cell) → Done q out c → q c.x c.y ≡ false → Done q out (cell_at (ahead c.x) c.y)
done_hold q out c d e =
    done_skip q out c _ d (step_in c)
    (λ x y b t. elim (step_out c x y b) [ inl p ↦ p | inr p ↦ absurd (subst T (ap (λ (k : Cell). q k.x k.y) p ∙ e) t) ])

single : (c : Cell) → T (in_order (c ∷ []))
unfolding in_order
single c = tt

pub done_emit : (q : Plane Bool) (out : List Cell) (c : Cell) → Done q out c → q c.x c.y ≡ true → Done q (out ++ (c ∷ [])) (cell_at (ahead c.x) c.y)
done_emit q out c d e =
    record { ordered = order-++ out (c ∷ []) d.ordered (single c) (λ x y u v s t. last x y u v s (lives_out u v c [] t)); each = λ x y. bool_same _ _ (there x y) (back_in x y) }
  where
    last : (x y u v : ℤ) → T (lives x y out) → (cell_at u v ≡ c) ⊎ T (lives u v []) → T (before (cell_at x y) (cell_at u v))
    last x y u v s (inl p) = subst (λ (k : Cell). T (before (cell_at x y) k)) (sym p) (done_past q out c d x y s).0
    last x y u v s (inr p) = absurd (lives_none u v p)

    this : (x y : ℤ) → cell_at x y ≡ c → T (before (cell_at x y) (cell_at (ahead c.x) c.y) && q x y)
    this x y p =
        subst (λ (k : Cell). T (before k (cell_at (ahead c.x) c.y) && q k.x k.y)) (sym p)
        (and_in _ _ (step_own c) (subst T (sym e) tt))

    there : (x y : ℤ) → T (lives x y (out ++ (c ∷ []))) → T (before (cell_at x y) (cell_at (ahead c.x) c.y) && q x y)
    there x y t =
        elim (lives-++ x y out (c ∷ []) t) [
          | inl s ↦ let p = done_past q out c d x y s in and_in _ _ (step_in c x y p.0) p.1
          | inr s ↦ elim (lives_out x y c [] s) [ inl p ↦ this x y p | inr p ↦ absurd (lives_none x y p) ]
        ]

    back_in : (x y : ℤ) → T (before (cell_at x y) (cell_at (ahead c.x) c.y) && q x y) → T (lives x y (out ++ (c ∷ [])))
    back_in x y t =
        let b = and_l (before (cell_at x y) (cell_at (ahead c.x) c.y)) (q x y) t in let l = and_r (before (cell_at x y) (cell_at (ahead c.x) c.y)) (q x y) t in
        elim (step_out c x y b) [
          | inl p ↦ lives-++l x y out (c ∷ []) (done_has q out c d x y p l)
          | inr p ↦ lives-++r x y out (c ∷ []) (subst (λ (k : Cell). T (lives k.x k.y (c ∷ []))) (sym p) (lives_head c []))
        ]

-- an ordered list whose cells all live in another is no longer than that
pub order_length : (cs ds : List Cell) → T (in_order cs) → T (in_order ds) → ((x y : ℤ) → T (lives x y cs) → T (lives x y ds)) → length cs ≤ length ds
order_length [] ds p q h = omega arith
order_length (c ∷ cs) [] p q h = absurd (lives_none c.x c.y (h c.x c.y (lives_head c cs)))
order_length (c ∷ cs) (d ∷ ds) p q h =
    elim (lives_out c.x c.y d ds (h c.x c.y (lives_head c cs))) [
      | inl e ↦
          let r = order_length cs ds (order_tail c cs p) (order_tail d ds q)
          (λ x y t. elim (lives_out x y d ds (h x y (lives_tail x y c cs t))) [
            | inl f ↦ absurd (before_irrefl c (subst (λ (k : Cell). T (before c k)) (f ∙ sym e) (order_after c cs x y p t)))
            | inr f ↦ f
          ]) in
          omega arith
      | inr l ↦
          let r = order_length (c ∷ cs) ds p (order_tail d ds q)
          (λ x y t. elim (lives_out x y d ds (h x y t)) [
            | inl f ↦ absurd (late x y t f (order_after d ds c.x c.y q l))
            | inr f ↦ f
          ]) in
          omega arith
    ]
  where
    late : (x y : ℤ) → T (lives x y (c ∷ cs)) → cell_at x y ≡ d → T (before d c) → ⊥
    late x y t f b =
        elim (lives_out x y c cs t) [
          | inl g ↦ before_irrefl c (subst (λ (k : Cell). T (before k c)) (sym f ∙ g) b)
          | inr g ↦ before_irrefl d (before_trans d c d b (subst (λ (k : Cell). T (before c k)) f (order_after c cs x y p g)))
        ]

-- all rows are done
pub done_end : (r : Rule) → T (good_rule r) → (cs out : List Cell) (c : Cell) → Done (step (life r) (plane_of cs)) out c →
    ((x y : ℤ) → T (step (life r) (plane_of cs) x y) → T (before (cell_at x y) c)) → out ≡ next_of r cs
done_end r g cs out c d all =
    let q = step (life r) (plane_of cs) in
    lists_same out (next_of r cs) d.ordered (next_order r cs)
    (λ x y. bool_same (lives x y out) (q x y) (λ t. (done_past q out c d x y t).1) (λ t. done_has q out c d x y (all x y t) t) ∙ sym (next_lives r g cs x y))

-- what is made so far is no longer than the whole
pub done_length : (r : Rule) → T (good_rule r) → (cs out : List Cell) (c : Cell) → Done (step (life r) (plane_of cs)) out c → length out ≤ length (next_of r cs)
done_length r g cs out c d =
    order_length out (next_of r cs) d.ordered (next_order r cs)
    (λ x y t. subst T (sym (next_lives r g cs x y)) (done_past (step (life r) (plane_of cs)) out c d x y t).1)
