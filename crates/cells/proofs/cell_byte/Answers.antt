use Rattle.std.proofs.Common.{ℕ, Bool, cond, pos, ◌+ℤ◌, ℤ, FitsSigned, w64, ap, subst, rules}
use mir.ValLaws.{to_z-of_z}
use Rattle.lent.specs.Lists.{words_of, stretch_of}
use Rattle.cells.proofs.Finds.{lives_far}
use Rattle.cells.proofs.RowBits.{far_unfit}
use Rattle.cells.proofs.cell_byte.Goals as goal

pub returns-in-None : goal.returns-in-None
returns-in-None c =
    let x = c.args.from.x in let y = c.args.from.y in let fit : FitsSigned w64 x = search rules in
    let far = far_unfit (x +ℤ pos c.args.i) y (subst (λ (z : ℤ). FitsSigned w64 (z +ℤ pos c.args.i) → ⊥) (to_z-of_z w64 x fit) c.in-None.ensures) in
    ap (λ (b : Bool). cond {A = ℕ} b 1 0) (lives_far (words_of c.args.list) (stretch_of c.args.list) (x +ℤ pos c.args.i) y c.args.list.listed far)
