use Rattle.std.proofs.Common.{ap, ◌∙◌, arith}
use Rattle.lent.specs.Lists.{words_of, stretch_of}
use Rattle.lent.specs.Stretches.{entry}
use Rattle.measure.specs.Sizes.{outness}
use Rattle.measure.proofs.Outness.{far_none, far_more}
use Rattle.measure.proofs.farthest_out.Goals as goal

pub loop-i-init : goal.loop-i-init
loop-i-init c = far_none (entry (words_of c.args.list) (stretch_of c.args.list).at) c.len-i.result (stretch_of c.args.list).len c.len-i.ensures

pub loop-i-preserved : goal.loop-i-preserved
loop-i-preserved c =
    let s = stretch_of c.args.list in
    far_more (entry (words_of c.args.list) s.at) c.loop-i.i s.len c.loop-i.most c.distance.result c.max-most.result
    c.loop-i-test.true (omega (arith, c.len-i.ensures, c.loop-i.auto.i)) c.loop-i.invariant (c.distance.ensures ∙ ap outness c.cell.ensures.value) c.max-most.ensures
