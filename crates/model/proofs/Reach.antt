-- How far cells lie out, and how far life comes in n generations.
use Rattle.std.proofs.Common.{ℕ, zero, suc, ◌+◌, ◌≤◌, Bool, cond, T, ltb, List, [], ◌∷◌, ℤ, pos, negsuc, sym, subst, inl, inr, arith}
use borrow.Author.Differences.{ints, up, down}
use Rattle.model.specs.Planes.{Plane, always, step, steps}
use Rattle.model.specs.Rules.{Rule, good_rule, life}
use Rattle.model.specs.Cells.{Cell, lives, plane_of}
use Rattle.model.specs.Lists.{nexts}
use Rattle.model.specs.World.{size, farthest}
use Rattle.model.specs.Promise.{ReachRight, Near}
use Rattle.model.proofs.Order.{lives_out, lives_head, lives_tail, lives_none}
use Rattle.model.proofs.Lists.{By, comes_of, nexts_lives}

-- how far out one cell lies, and the farther of that and m
far_here : (x y : ℤ) (m : ℕ) →
    (size x ≤ cond (ltb m (cond (ltb (size x) (size y)) (size y) (size x))) (cond (ltb (size x) (size y)) (size y) (size x)) m) ×
    (size y ≤ cond (ltb m (cond (ltb (size x) (size y)) (size y) (size x))) (cond (ltb (size x) (size y)) (size y) (size x)) m) ×
    (m ≤ cond (ltb m (cond (ltb (size x) (size y)) (size y) (size x))) (cond (ltb (size x) (size y)) (size y) (size x)) m)
far_here x y m = (grind arith, grind arith, grind arith)

far_least : (a b m n : ℕ) → a ≤ n → b ≤ n → m ≤ n → cond (ltb m (cond (ltb a b) b a)) (cond (ltb a b) b a) m ≤ n
far_least a b m n p q s = grind arith

pub far_head : (c : Cell) (cs : List Cell) → (size c.x ≤ farthest (c ∷ cs)) × (size c.y ≤ farthest (c ∷ cs)) × (farthest cs ≤ farthest (c ∷ cs))
unfolding farthest
far_head c cs = far_here c.x c.y (farthest cs)

pub far_out : (cs : List Cell) (x y : ℤ) → T (lives x y cs) → (size x ≤ farthest cs) × (size y ≤ farthest cs)
far_out [] x y t = absurd (lives_none x y t)
far_out (c ∷ cs) x y t =
    let h = far_head c cs in
    elim (lives_out x y c cs t) [
      | inl e ↦ subst (λ (z : Cell). (size z.x ≤ farthest (c ∷ cs)) × (size z.y ≤ farthest (c ∷ cs))) (sym e) (h.0, h.1)
      | inr k ↦ let i = far_out cs x y k in (omega arith, omega arith)
    ]

pub far_in : (cs : List Cell) (n : ℕ) → ((x y : ℤ) → T (lives x y cs) → (size x ≤ n) × (size y ≤ n)) → farthest cs ≤ n
unfolding farthest
far_in [] n f = omega arith
far_in (c ∷ cs) n f =
    let h = f c.x c.y (lives_head c cs) in
    far_least (size c.x) (size c.y) (farthest cs) n h.0 h.1 (far_in cs n (λ x y t. f x y (lives_tail x y c cs t)))

pub size_is : (z : ℤ) → (size z ≤ up z + down z) × (up z ≤ size z + down z) × (down z ≤ size z + up z)
size_is (pos n) = (omega arith, omega arith, omega arith)
size_is (negsuc n) = (omega arith, omega arith, omega arith)

pub near_zero : (x : ℤ) → Near 0 x x
near_zero x = grind (arith, ints)

pub near_by : (n : ℕ) (x u v : ℤ) → Near n x u → By u v → Near (suc n) x v
near_by n x u v h b = grind (arith, ints)

pub near_size : (n : ℕ) (x u : ℤ) → Near n x u → size x ≤ size u + n
near_size n x u h = grind (arith, ints)

-- what lives after n generations has a cell near it that lives now
pub comes_from : (r : Rule) → T (good_rule r) → (n : ℕ) (p : Plane Bool) (x y : ℤ) → T (steps (always (life r)) n p x y) →
    (u : ℤ) × (v : ℤ) × T (p u v) × Near n x u × Near n y v
unfolding steps
comes_from r g zero p x y t = (x, y, t, near_zero x, near_zero y)
comes_from r g (suc n) p x y t =
    let (u, v, h, a, b) = comes_from r g n (step (life r) p) x y t in
    let (s, z, k, d, e) = comes_of r g p u v h in
    (s, z, k, near_by n x u s a d, near_by n y v z b e)

pub far_nexts : ReachRight
far_nexts r g n cs =
    far_in (nexts r n cs) (farthest cs + n) (λ x y t.
    let (u, v, h, a, b) = comes_from r g n (plane_of cs) x y (subst T (nexts_lives r g n cs x y) t) in
    let k = far_out cs u v h in
    let i = near_size n x u a in
    let j = near_size n y v b in
    (omega arith, omega arith))
