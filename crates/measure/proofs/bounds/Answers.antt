use Rattle.std.proofs.Common.{refl, [], sym, ap, ◌∙◌, arith}
use Rattle.model.specs.declared.Cell.{Cell}
use Rattle.model.specs.Cells.{box_of}
use Rattle.lent.specs.Lists.{words_of, stretch_of}
use Rattle.measure.specs.Boxes.{widened}
use Rattle.measure.proofs.Boxes.{box_from, box_first, box_join, box_last, bounds_empty, bounds_box}
use Rattle.lent.proofs.Lists.{never}
use Rattle.measure.proofs.bounds.Goals as goal

pub returns-then-is_empty : goal.returns-then-is_empty
returns-then-is_empty c = bounds_empty (words_of c.args.list) (stretch_of c.args.list) (c.if-is_empty.ensures.0 refl)

pub loop-i-init : goal.loop-i-init
loop-i-init c =
    let empty = never c.if-is_empty.ensures.1 in let m = words_of c.args.list in let s = stretch_of c.args.list in (
      omega (arith, c.len-i.ensures, empty),
      c.around-bounds.ensures ∙ ap (λ (d : Cell). box_of d []) c.cell.ensures.value ∙ box_first m s ∙ ap (box_from m s) (sym c.len-i.ensures),
    )

pub loop-i-preserved : goal.loop-i-preserved
loop-i-preserved c =
    let m = words_of c.args.list in let s = stretch_of c.args.list in let i = c.loop-i.invariant in let value = c.cell-in-loop-i.ensures.value in (
      omega arith,
      c.widen-bounds.ensures ∙ (λ j. widened (i.1 j) (value j)) ∙ box_join m s c.loop-i.i i.0 (omega (arith, c.len-i.ensures, c.loop-i.auto.i)),
    )

pub returns : goal.returns
returns c =
    let empty = never c.if-is_empty.ensures.1 in let m = words_of c.args.list in let s = stretch_of c.args.list in let i = c.loop-i.invariant in
    bounds_box m s c.loop-i.bounds (omega (arith, empty)) (i.1 ∙ box_last m s c.loop-i.i i.0 c.loop-i-test.false)
