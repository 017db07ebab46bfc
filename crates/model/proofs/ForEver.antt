-- A period that was found comes again and again, since moved planes do the same.
use Rattle.std.proofs.Common.{◌≡◌, ℕ, zero, suc, ◌+◌, ◌*◌, T, List, ℤ, ◌+ℤ◌, neg_ℤ, sym, ap, ◌∙◌, arith}
use Rattle.model.specs.Planes.{always, steps}
use Rattle.model.specs.Rules.{Rule, good_rule, life}
use Rattle.model.specs.Cells.{Cell, in_order, plane_of, moved}
use Rattle.model.specs.Lists.{nexts}
use Rattle.model.specs.Promise.{many, ForEver}
use Rattle.model.proofs.Order.{lists_same}
use Rattle.model.proofs.Time.{adds}
use Rattle.model.proofs.Lists.{nexts_order, nexts_lives}
use Rattle.model.proofs.Moves.{lives_moved, order_moved, moved_zero, moved_moved}
use Rattle.model.proofs.Periods.{period_right}
use Rattle.model.proofs.Alike.{moved_alike}

pub nexts_moved : (r : Rule) → T (good_rule r) → (n : ℕ) (a b : ℤ) (cs : List Cell) → T (in_order cs) → nexts r n (moved a b cs) ≡ moved a b (nexts r n cs)
nexts_moved r g n a b cs o =
    let σ = always (life r) in
    lists_same (nexts r n (moved a b cs)) (moved a b (nexts r n cs)) (nexts_order r n (moved a b cs) (order_moved a b cs o)) (order_moved a b (nexts r n cs) (nexts_order r n cs o))
    (λ x y.
    nexts_lives r g n (moved a b cs) x y ∙ (λ i. steps σ n (λ u v. lives_moved a b u v cs i) x y) ∙
    moved_alike σ (neg_ℤ a) (neg_ℤ b) n (plane_of cs) x y ∙ sym (nexts_lives r g n cs (x +ℤ neg_ℤ a) (y +ℤ neg_ℤ b)) ∙ sym (lives_moved a b x y (nexts r n cs)))

pub again : (r : Rule) → T (good_rule r) → (t : ℕ) (a b : ℤ) (cs : List Cell) → T (in_order cs) → nexts r t cs ≡ moved a b cs → (k : ℕ) →
    nexts r (k * t) cs ≡ moved (many k a) (many k b) cs
unfolding many nexts
again r g t a b cs o e zero = let z : 0 * t ≡ 0 = omega arith in ap (λ (n : ℕ). nexts r n cs) z ∙ sym (moved_zero cs)
again r g t a b cs o e (suc k) =
    let z : suc k * t ≡ k * t + t = omega arith in
    ap (λ (n : ℕ). nexts r n cs) z ∙ adds r (k * t) t cs ∙ ap (nexts r t) (again r g t a b cs o e k) ∙ nexts_moved r g t (many k a) (many k b) cs o ∙
    ap (moved (many k a) (many k b)) e ∙ moved_moved (many k a) (many k b) a b cs

pub for_ever : ForEver
for_ever bound w g o = (
  λ t dx dy e.
      let k = (period_right bound w).0 t dx dy e in
      (k.0, k.1, again w.rule g t dx dy w.cells o k.2, k.3),
  (period_right bound w).1,
)
