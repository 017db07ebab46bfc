use Rattle.std.proofs.Common.{◌≡◌, ℕ, suc, ◌-◌, sym, ◌∙◌, subst, arith}
use Rattle.model.specs.Squares.{state_at}
use Rattle.slots.specs.Stores.{Has, Is}
use Rattle.pieces.proofs.Nine.{is_self}
use Rattle.seek.proofs.Paths.{quarter_state, word_state, leaf_within, rest_within}
use Rattle.seek.proofs.+cell_of.Goals as goal

pub returns-then-depth-eq0 : goal.returns-then-depth-eq0
returns-then-depth-eq0 t c = λ q h.
    let v = c.args.store.now in let z = c.if-depth-eq0.true in let x = c.args.x in let y = c.args.y in
    let e = c.cells.ensures q (subst (λ (d : ℕ). Is v d c.args.number q) z h) in
    c.cell.ensures ∙ word_state _ x y (leaf_within _ x z c.requires.within.0) (leaf_within _ y z c.requires.within.1) ∙ (λ i. state_at (suc (suc (suc (sym z i)))) (sym e i) x y)

pub cell_of-requires : goal.cell_of-requires
cell_of-requires t c =
    let v = c.args.store.now in let p = c.args.depth - 1 in let n = c.if-depth-eq0.false in let l = c.requires.square.1 in
    let z : c.args.depth ≡ suc p = omega arith in
    let h = subst (λ (d : ℕ). Has v d c.args.number) z c.requires.square.0 in (
      omega arith,
      (
        c.requires.good,
        (
          ((c.quarter-part.ensures p _ (is_self v (suc p) c.args.number h)).valid, omega arith),
          (rest_within c.args.x _ p c.side-half.ensures, rest_within c.args.y _ p c.side-half.ensures),
        ),
      ),
    )

pub returns : goal.returns
returns t c = λ q h.
    let v = c.args.store.now in let p = c.args.depth - 1 in let n = c.if-depth-eq0.false in
    let z : c.args.depth ≡ suc p = omega arith in
    c.cell_of.ensures _ (c.quarter-part.ensures p q (subst (λ (d : ℕ). Is v d c.args.number q) z h)) ∙
    quarter_state v c.args.depth p c.args.number q c.args.x c.args.y c.side-half.result z c.side-half.ensures c.requires.within.0 c.requires.within.1 h
