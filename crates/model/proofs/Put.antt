-- A list with one cell put: it stays in order, and no other cell changes.
use Rattle.std.proofs.Common.{◌≡◌, Bool, true, false, cond, not, T, ◌⊎◌, List, [], ◌∷◌, ℤ, sym, ◌∙◌, subst, inl, inr, T_not}
use Rattle.model.specs.Cells.{Cell, cell_at, same_cell, before, in_order, lives, put}
use Rattle.model.specs.Promise.{ListsRight}
use Rattle.model.proofs.Order.{bool_same, if_so, same_cell_out, same_cell_in, before_trans, before_irrefl, before_tri, lives_out, lives_head, lives_tail, lives_none, lives_cell, order_tail, order_after, order_in}
use Rattle.model.proofs.Lists.{next_order, next_lives, nexts_order, nexts_lives}

-- ---- a cell that is to live
put_in : (c : Cell) (cs : List Cell) (x y : ℤ) → T (lives x y (put c true cs)) → (cell_at x y ≡ c) ⊎ T (lives x y cs)
unfolding put
put_in c [] x y t = lives_out x y c [] t
put_in c (d ∷ cs) x y t =
    if_so P (same_cell c d) (d ∷ cs) (cond (before c d) (c ∷ d ∷ cs) (d ∷ put c true cs))
    (λ s t. inr t)
    (λ s. if_so P (before c d) (c ∷ d ∷ cs) (d ∷ put c true cs)
    (λ b t. lives_out x y c (d ∷ cs) t)
    (λ b t. elim (lives_out x y d (put c true cs) t) [
      | inl e ↦ inr (lives_cell (cell_at x y) d cs e)
      | inr h ↦ elim (put_in c cs x y h) [ inl e ↦ inl e | inr k ↦ inr (lives_tail x y d cs k) ]
    ]))
    t
  where
    P : List Cell → Type 0
    P l = T (lives x y l) → (cell_at x y ≡ c) ⊎ T (lives x y (d ∷ cs))

put_has : (c : Cell) (cs : List Cell) → T (lives c.x c.y (put c true cs))
unfolding put
put_has c [] = lives_head c []
put_has c (d ∷ cs) =
    if_so P (same_cell c d) (d ∷ cs) (cond (before c d) (c ∷ d ∷ cs) (d ∷ put c true cs))
    (λ s. lives_cell c d cs (same_cell_out c d s))
    (λ s. if_so P (before c d) (c ∷ d ∷ cs) (d ∷ put c true cs)
    (λ b. lives_head c (d ∷ cs)) (λ b. lives_tail c.x c.y d (put c true cs) (put_has c cs)))
  where
    P : List Cell → Type 0
    P l = T (lives c.x c.y l)

put_keeps : (c : Cell) (cs : List Cell) (x y : ℤ) → T (lives x y cs) → T (lives x y (put c true cs))
unfolding put
put_keeps c [] x y t = absurd (lives_none x y t)
put_keeps c (d ∷ cs) x y t =
    if_so P (same_cell c d) (d ∷ cs) (cond (before c d) (c ∷ d ∷ cs) (d ∷ put c true cs))
    (λ s. t)
    (λ s. if_so P (before c d) (c ∷ d ∷ cs) (d ∷ put c true cs)
    (λ b. lives_tail x y c (d ∷ cs) t)
    (λ b. elim (lives_out x y d cs t) [
      | inl e ↦ lives_cell (cell_at x y) d (put c true cs) e
      | inr h ↦ lives_tail x y d (put c true cs) (put_keeps c cs x y h)
    ]))
  where
    P : List Cell → Type 0
    P l = T (lives x y l)

-- neither equal nor before: after
later : (c d : Cell) → T (not (same_cell c d)) → T (not (before c d)) → T (before d c)
later c d s b =
    elim (before_tri c d) [
      | inl h ↦ absurd (T_not (before c d) b h)
      | inr h ↦ elim h [ inl e ↦ absurd (T_not (same_cell c d) s (same_cell_in c d e)) | inr k ↦ k ]
    ]

put_true_order : (c : Cell) (cs : List Cell) → T (in_order cs) → T (in_order (put c true cs))
unfolding put in_order
put_true_order c [] o = tt
put_true_order c (d ∷ cs) o =
    if_so P (same_cell c d) (d ∷ cs) (cond (before c d) (c ∷ d ∷ cs) (d ∷ put c true cs))
    (λ s. o)
    (λ s. if_so P (before c d) (c ∷ d ∷ cs) (d ∷ put c true cs)
    (λ b. order_in c (d ∷ cs)
    (λ x y t. elim (lives_out x y d cs t) [
      | inl e ↦ subst (λ (z : Cell). T (before c z)) (sym e) b
      | inr h ↦ before_trans c d (cell_at x y) b (order_after d cs x y o h)
    ]) o)
    (λ b. order_in d (put c true cs)
    (λ x y t. elim (put_in c cs x y t) [
      | inl e ↦ subst (λ (z : Cell). T (before d z)) (sym e) (later c d s b)
      | inr h ↦ order_after d cs x y o h
    ]) (put_true_order c cs (order_tail d cs o))))
  where
    P : List Cell → Type 0
    P l = T (in_order l)

-- ---- a cell that is to be dead
cut_in : (c : Cell) (cs : List Cell) (x y : ℤ) → T (lives x y (put c false cs)) → T (lives x y cs)
unfolding put
cut_in c [] x y t = t
cut_in c (d ∷ cs) x y t =
    if_so P (same_cell c d) cs (d ∷ put c false cs)
    (λ s t. lives_tail x y d cs t)
    (λ s t. elim (lives_out x y d (put c false cs) t) [
      | inl e ↦ lives_cell (cell_at x y) d cs e
      | inr h ↦ lives_tail x y d cs (cut_in c cs x y h)
    ])
    t
  where
    P : List Cell → Type 0
    P l = T (lives x y l) → T (lives x y (d ∷ cs))

cut_not : (c : Cell) (cs : List Cell) → T (in_order cs) → T (lives c.x c.y (put c false cs)) → ⊥
unfolding put
cut_not c [] o t = lives_none c.x c.y t
cut_not c (d ∷ cs) o t =
    if_so P (same_cell c d) cs (d ∷ put c false cs)
    (λ s t. before_irrefl c (subst (λ (z : Cell). T (before z c)) (sym (same_cell_out c d s)) (order_after d cs c.x c.y o t)))
    (λ s t. elim (lives_out c.x c.y d (put c false cs) t) [
      | inl e ↦ T_not (same_cell c d) s (same_cell_in c d e)
      | inr h ↦ cut_not c cs (order_tail d cs o) h
    ])
    t
  where
    P : List Cell → Type 0
    P l = T (lives c.x c.y l) → ⊥

cut_keeps : (c : Cell) (cs : List Cell) (x y : ℤ) → (c ≡ cell_at x y → ⊥) → T (lives x y cs) → T (lives x y (put c false cs))
unfolding put
cut_keeps c [] x y n t = t
cut_keeps c (d ∷ cs) x y n t =
    if_so P (same_cell c d) cs (d ∷ put c false cs)
    (λ s. elim (lives_out x y d cs t) [ inl e ↦ absurd (n (same_cell_out c d s ∙ sym e)) | inr h ↦ h ])
    (λ s. elim (lives_out x y d cs t) [
      | inl e ↦ lives_cell (cell_at x y) d (put c false cs) e
      | inr h ↦ lives_tail x y d (put c false cs) (cut_keeps c cs x y n h)
    ])
  where
    P : List Cell → Type 0
    P l = T (lives x y l)

put_false_order : (c : Cell) (cs : List Cell) → T (in_order cs) → T (in_order (put c false cs))
unfolding put
put_false_order c [] o = o
put_false_order c (d ∷ cs) o =
    if_so P (same_cell c d) cs (d ∷ put c false cs)
    (λ s. order_tail d cs o)
    (λ s. order_in d (put c false cs) (λ x y t. order_after d cs x y o (cut_in c cs x y t)) (put_false_order c cs (order_tail d cs o)))
  where
    P : List Cell → Type 0
    P l = T (in_order l)

pub put_order : (c : Cell) (b : Bool) (cs : List Cell) → T (in_order cs) → T (in_order (put c b cs))
put_order c true cs o = put_true_order c cs o
put_order c false cs o = put_false_order c cs o

bool_true : (a : Bool) → T a → a ≡ true
bool_true a t = bool_same a true (λ _. tt) (λ _. t)

bool_false : (a : Bool) → (T a → ⊥) → a ≡ false
bool_false a f = bool_same a false (λ t. absurd (f t)) (λ z. absurd z)

pub put_lives : (cs : List Cell) → T (in_order cs) → (c : Cell) (b : Bool) (x y : ℤ) →
    lives x y (put c b cs) ≡ cond (same_cell c (cell_at x y)) b (lives x y cs)
put_lives cs o c true x y =
    if_so (λ (z : Bool). lives x y (put c true cs) ≡ z) (same_cell c (cell_at x y)) true (lives x y cs)
    (λ s. bool_true (lives x y (put c true cs)) (subst (λ (z : Cell). T (lives z.x z.y (put c true cs))) (same_cell_out c (cell_at x y) s) (put_has c cs)))
    (λ s. bool_same (lives x y (put c true cs)) (lives x y cs)
    (λ t. elim (put_in c cs x y t) [ inl e ↦ absurd (T_not (same_cell c (cell_at x y)) s (same_cell_in c (cell_at x y) (sym e))) | inr h ↦ h ])
    (put_keeps c cs x y))
put_lives cs o c false x y =
    if_so (λ (z : Bool). lives x y (put c false cs) ≡ z) (same_cell c (cell_at x y)) false (lives x y cs)
    (λ s. bool_false (lives x y (put c false cs))
    (λ t. cut_not c cs o (subst (λ (z : Cell). T (lives z.x z.y (put c false cs))) (sym (same_cell_out c (cell_at x y) s)) t)))
    (λ s. bool_same (lives x y (put c false cs)) (lives x y cs)
    (cut_in c cs x y)
    (cut_keeps c cs x y (λ e. T_not (same_cell c (cell_at x y)) s (same_cell_in c (cell_at x y) e))))

pub lists_right : ListsRight
lists_right r g cs o =
    (next_order r cs, next_lives r g cs, λ n. (nexts_order r n cs o, nexts_lives r g n cs), λ a b. (put_order a b cs o, put_lives cs o a b))
