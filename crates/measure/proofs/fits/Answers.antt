use Rattle.std.proofs.Common.{refl, ◌∙◌, arith}
use Rattle.lent.specs.Lists.{words_of, stretch_of}
use Rattle.measure.proofs.Outness.{reach_empty, reach_leb}
use Rattle.lent.proofs.Lists.{never}
use Rattle.measure.proofs.fits.Goals as goal

pub returns-then-is_empty : goal.returns-then-is_empty
returns-then-is_empty c = c.if-is_empty.true ∙ reach_empty (words_of c.args.list) (stretch_of c.args.list) c.args.n (c.if-is_empty.ensures.0 refl)

pub returns-else-is_empty : goal.returns-else-is_empty
returns-else-is_empty c =
    let empty = never c.if-is_empty.ensures.1 in
    c.stays_inside.ensures ∙ reach_leb (words_of c.args.list) (stretch_of c.args.list) c.args.n c.farthest_out.result (omega (arith, empty)) c.farthest_out.ensures
