-- Lists that are moved as a whole.
use Rattle.std.proofs.Common.{◌≡◌, suc, ◌&&◌, ◌||◌, T, List, [], ◌∷◌, length, ℤ, pos, ◌+ℤ◌, neg_ℤ, refl, ap, subst, arith}
use borrow.Author.Differences.{ints}
use lib.IntN.{+ℤ_idr, +ℤ_assoc}
use Rattle.model.specs.Cells.{Cell, cell_at, same_z, before, in_order, lives, moved}
use Rattle.model.proofs.Order.{bool_same, and_in, order_head, order_tail, same_z_in, same_z_out}

same_z_moved : (x z a : ℤ) → same_z x (z +ℤ a) ≡ same_z (x +ℤ neg_ℤ a) z
same_z_moved x z a =
    bool_same (same_z x (z +ℤ a)) (same_z (x +ℤ neg_ℤ a) z)
    (λ t. let e = same_z_out x (z +ℤ a) t in let k : x +ℤ neg_ℤ a ≡ z = omega (arith, ints) in subst (λ (v : ℤ). T (same_z (x +ℤ neg_ℤ a) v)) k (same_z_in (x +ℤ neg_ℤ a)))
    (λ t. let e = same_z_out (x +ℤ neg_ℤ a) z t in let k : x ≡ z +ℤ a = omega (arith, ints) in subst (λ (v : ℤ). T (same_z x v)) k (same_z_in x))

pub lives_moved : (a b x y : ℤ) (cs : List Cell) → lives x y (moved a b cs) ≡ lives (x +ℤ neg_ℤ a) (y +ℤ neg_ℤ b) cs
unfolding lives moved
lives_moved a b x y [] = refl
lives_moved a b x y (c ∷ cs) = λ i. (same_z_moved x c.x a i && same_z_moved y c.y b i) || lives_moved a b x y cs i

before_moved : (a b : ℤ) (c d : Cell) → T (before c d) → T (before (cell_at (c.x +ℤ a) (c.y +ℤ b)) (cell_at (d.x +ℤ a) (d.y +ℤ b)))
before_moved a b c d t = grind (arith, ints)

pub order_moved : (a b : ℤ) (cs : List Cell) → T (in_order cs) → T (in_order (moved a b cs))
unfolding in_order moved
order_moved a b [] o = tt
order_moved a b (c ∷ []) o = tt
order_moved a b (c ∷ d ∷ cs) o =
    and_in (before (cell_at (c.x +ℤ a) (c.y +ℤ b)) (cell_at (d.x +ℤ a) (d.y +ℤ b))) (in_order (moved a b (d ∷ cs)))
    (before_moved a b c d (order_head c d cs o)) (order_moved a b (d ∷ cs) (order_tail c (d ∷ cs) o))

pub moved_zero : (cs : List Cell) → moved (pos 0) (pos 0) cs ≡ cs
unfolding moved
moved_zero [] = refl
moved_zero (c ∷ cs) = λ i. record { x = +ℤ_idr c.x i; y = +ℤ_idr c.y i } ∷ moved_zero cs i

pub moved_moved : (a b c d : ℤ) (cs : List Cell) → moved a b (moved c d cs) ≡ moved (c +ℤ a) (d +ℤ b) cs
unfolding moved
moved_moved a b c d [] = refl
moved_moved a b c d (e ∷ cs) = λ i. record { x = +ℤ_assoc e.x c a i; y = +ℤ_assoc e.y d b i } ∷ moved_moved a b c d cs i

pub length_moved : (a b : ℤ) (cs : List Cell) → length (moved a b cs) ≡ length cs
unfolding moved
length_moved a b [] = refl
length_moved a b (c ∷ cs) = ap suc (length_moved a b cs)
