use Rattle.std.proofs.Common.{◌≡◌, ℕ, suc, ◌-◌, subst, arith}
use Rattle.slots.specs.Stores.{Has}
use Rattle.pieces.proofs.Nine.{is_self}
use Rattle.treetests.proofs.tests.+leaf_at.Goals as goal

pub leaf_at-requires : goal.leaf_at-requires
leaf_at-requires t c =
    let v = c.args.store.now in let p = c.args.depth - 1 in let n = c.if-depth-eq0.false in let l = c.requires.square.1 in
    let z : c.args.depth ≡ suc p = omega arith in
    let h = subst (λ (d : ℕ). Has v d c.args.number) z c.requires.square.0 in
    (omega arith, (c.requires.good, ((c.quarter-part.ensures p _ (is_self v (suc p) c.args.number h)).valid, omega arith)))
