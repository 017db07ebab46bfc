-- Tests as facts, the order of cells, and that an ordered list is told by its living cells.
use Rattle.std.proofs.Common.{◌≡◌, ◌≤◌, Bool, true, false, cond, not, ◌&&◌, ◌||◌, T, ◌⊎◌, List, [], ◌∷◌, ℤ, sym, refl, subst, inl, inr, arith}
use borrow.Author.Differences.{ints}
use lib.Signed.{le_z}
use mir.Val.{bool_byte}
use Rattle.model.specs.Rules.{as_one}
use Rattle.model.specs.Cells.{Cell, cell_at, same_z, same_cell, before, in_order, lives}

pub bool_same : (a b : Bool) → (T a → T b) → (T b → T a) → a ≡ b
bool_same true true f g = refl
bool_same true false f g = absurd (f tt)
bool_same false true f g = absurd (g tt)
bool_same false false f g = refl

-- a truth value as the code counts it
pub byte_one : (b : Bool) → bool_byte b ≡ as_one b
byte_one true = refl
byte_one false = refl

pub byte_most : (b : Bool) → bool_byte b ≤ 1
byte_most true = omega arith
byte_most false = omega arith

pub and_l : (a b : Bool) → T (a && b) → T a
and_l true b t = tt
and_l false b t = absurd t

pub and_r : (a b : Bool) → T (a && b) → T b
and_r true b t = t
and_r false b t = absurd t

pub and_in : (a b : Bool) → T a → T b → T (a && b)
and_in true b s t = t
and_in false b s t = absurd s

pub or_l : (a b : Bool) → T a → T (a || b)
or_l true b t = tt
or_l false b t = absurd t

pub or_r : (a b : Bool) → T b → T (a || b)
or_r true b t = tt
or_r false b t = t

pub or_out : (a b : Bool) → T (a || b) → T a ⊎ T b
or_out true b t = inl tt
or_out false b t = inr t

-- a test passes or its denial does
pub decided : (b : Bool) → T b ⊎ T (not b)
decided true = inl tt
decided false = inr tt

-- a claim about a `cond`, arm by arm
pub if_so : {A : Type 0} (P : A → Type 0) (b : Bool) (x y : A) → (T b → P x) → (T (not b) → P y) → P (cond b x y)
if_so P true x y f g = f tt
if_so P false x y f g = g tt

pub same_z_out : (a b : ℤ) → T (same_z a b) → a ≡ b
same_z_out a b t = let p = and_l (le_z a b) (le_z b a) t in let q = and_r (le_z a b) (le_z b a) t in omega (arith, ints)

pub same_z_in : (a : ℤ) → T (same_z a a)
same_z_in a = grind (arith, ints)

pub same_cell_out : (c d : Cell) → T (same_cell c d) → c ≡ d
same_cell_out c d t =
    let p = same_z_out c.x d.x (and_l _ _ t) in let q = same_z_out c.y d.y (and_r _ _ t) in
    λ i. record { x = p i; y = q i }

pub same_cell_in : (c d : Cell) → c ≡ d → T (same_cell c d)
same_cell_in c d e = subst (λ (z : Cell). T (same_cell c z)) e (and_in _ _ (same_z_in c.x) (same_z_in c.y))

pub before_trans : (a b c : Cell) → T (before a b) → T (before b c) → T (before a c)
before_trans a b c s t = grind (arith, ints)

pub before_irrefl : (a : Cell) → T (before a a) → ⊥
before_irrefl a t = grind (arith, ints)

neither : (a b : Cell) → T (not (before a b)) → T (not (before b a)) → T (same_cell a b)
neither a b s t = grind (arith, ints)

pub before_tri : (a b : Cell) → T (before a b) ⊎ ((a ≡ b) ⊎ T (before b a))
before_tri a b =
    elim (decided (before a b)) [
      | inl t ↦ inl t
      | inr s ↦ elim (decided (before b a)) [ inl t ↦ inr (inr t) | inr t ↦ inr (inl (same_cell_out a b (neither a b s t))) ]
    ]

pub lives_out : (x y : ℤ) (c : Cell) (cs : List Cell) → T (lives x y (c ∷ cs)) → (cell_at x y ≡ c) ⊎ T (lives x y cs)
unfolding lives
lives_out x y c cs t =
    elim (or_out (same_z x c.x && same_z y c.y) _ t) [ inl h ↦ inl (same_cell_out (cell_at x y) c h) | inr h ↦ inr h ]

pub lives_head : (c : Cell) (cs : List Cell) → T (lives c.x c.y (c ∷ cs))
unfolding lives
lives_head c cs = or_l _ (lives c.x c.y cs) (same_cell_in c c refl)

pub lives_tail : (x y : ℤ) (c : Cell) (cs : List Cell) → T (lives x y cs) → T (lives x y (c ∷ cs))
unfolding lives
lives_tail x y c cs t = or_r (same_z x c.x && same_z y c.y) _ t

pub lives_none : (x y : ℤ) → T (lives x y []) → ⊥
unfolding lives
lives_none x y t = t

pub lives_cell : (c d : Cell) (cs : List Cell) → c ≡ d → T (lives c.x c.y (d ∷ cs))
lives_cell c d cs e = subst (λ (z : Cell). T (lives c.x c.y (z ∷ cs))) e (lives_head c cs)

pub order_tail : (c : Cell) (cs : List Cell) → T (in_order (c ∷ cs)) → T (in_order cs)
unfolding in_order
order_tail c [] t = tt
order_tail c (d ∷ cs) t = and_r (before c d) _ t

pub order_head : (c d : Cell) (cs : List Cell) → T (in_order (c ∷ d ∷ cs)) → T (before c d)
unfolding in_order
order_head c d cs t = and_l _ (in_order (d ∷ cs)) t

pub order_after : (c : Cell) (cs : List Cell) (x y : ℤ) → T (in_order (c ∷ cs)) → T (lives x y cs) → T (before c (cell_at x y))
order_after c [] x y o t = absurd (lives_none x y t)
order_after c (d ∷ cs) x y o t =
    let h = order_head c d cs o in
    elim (lives_out x y d cs t) [
      | inl e ↦ subst (λ (z : Cell). T (before c z)) (sym e) h
      | inr k ↦ before_trans c d (cell_at x y) h (order_after d cs x y (order_tail c (d ∷ cs) o) k)
    ]

pub order_in : (c : Cell) (cs : List Cell) → ((x y : ℤ) → T (lives x y cs) → T (before c (cell_at x y))) → T (in_order cs) → T (in_order (c ∷ cs))
unfolding in_order
order_in c [] f o = tt
order_in c (d ∷ cs) f o = and_in (before c d) _ (f d.x d.y (lives_head d cs)) o

-- a head of one list lives in the other, where it is the head or after it
heads : (c d : Cell) (cs ds : List Cell) → T (in_order (c ∷ cs)) → T (in_order (d ∷ ds)) →
    T (lives c.x c.y (d ∷ ds)) → T (lives d.x d.y (c ∷ cs)) → c ≡ d
heads c d cs ds o q s t =
    elim (lives_out c.x c.y d ds s) [
      | inl e ↦ e
      | inr h ↦ elim (lives_out d.x d.y c cs t) [
        | inl e ↦ sym e
        | inr k ↦ absurd (before_irrefl c (before_trans c d c (order_after c cs d.x d.y o k) (order_after d ds c.x c.y q h)))
      ]
    ]

-- what lives in the tail of one list lives in the tail of the other: it is not the head
tails : (c d : Cell) (cs ds : List Cell) → c ≡ d → T (in_order (c ∷ cs)) → (x y : ℤ) → T (lives x y cs) → T (lives x y (d ∷ ds)) → T (lives x y ds)
tails c d cs ds e o x y t s =
    elim (lives_out x y d ds s) [
      | inl h ↦ absurd (before_irrefl c (subst (λ (z : Cell). T (before c z)) (cc) (order_after c cs x y o t)))
      | inr h ↦ h
    ]

pub lists_same : (cs ds : List Cell) → T (in_order cs) → T (in_order ds) → ((x y : ℤ) → lives x y cs ≡ lives x y ds) → cs ≡ ds
lists_same [] [] o q f = refl
lists_same [] (d ∷ ds) o q f = absurd (lives_none d.x d.y (subst T (sym (f d.x d.y)) (lives_head d ds)))
lists_same (c ∷ cs) [] o q f = absurd (lives_none c.x c.y (subst T (f c.x c.y) (lives_head c cs)))
lists_same (c ∷ cs) (d ∷ ds) o q f =
    let e = heads c d cs ds o q (subst T (f c.x c.y) (lives_head c cs)) (subst T (sym (f d.x d.y)) (lives_head d ds)) in
    let k = lists_same cs ds (order_tail c cs o) (order_tail d ds q) (λ x y. bool_same (lives x y cs) (lives x y ds)
    (λ t. tails c d cs ds e o x y t (subst T (f x y) (lives_tail x y c cs t)))
    (λ t. tails d c ds cs (sym e) q x y t (subst T (sym (f x y)) (lives_tail x y d ds t)))) in
    λ i. e i ∷ k i
