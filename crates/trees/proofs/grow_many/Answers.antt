use Rattle.std.proofs.Common.{arith}
use Rattle.trees.proofs.Rows.{taken_trans, row_on, row_more, row_is}
use Rattle.trees.proofs.Growing.{inside_row}
use Rattle.trees.proofs.grow_many.Goals as goal

pub grow-requires : goal.grow-requires
grow-requires c =
    let v = c.loop-x.invariant in let n = c.in_ok-hold.ensures.0.from in let f = v.taken.from in let e = v.taken.last.ends in let l = v.len in
    let r = c.requires.room in let i = c.requires.inside in let d = i.0 in let b = c.loop-x-test.true in
    record { good = v.taken.good; room = omega arith; inside = (omega arith, inside_row c.args.depth c.loop-x.x d (omega arith)) }

pub returns-in-Err : goal.returns-in-Err
returns-in-Err c =
    let b = c.loop-x-test.true in let e = c.in-Err.ensures in let r = row_on c.loop-x.invariant e.kept in let l = r.len in
    (taken_trans c.in_ok-hold.ensures.0 r.taken, omega arith, row_is r, e.is)

pub loop-x-preserved : goal.loop-x-preserved
loop-x-preserved c =
    let e = c.in-Ok.ensures in let f = c.add.ensures in row_more (row_on c.loop-x.invariant e.kept) e.is f.same f.good f.pushed f.more

pub returns : goal.returns
returns c =
    let r = c.loop-x.invariant in let l = r.len in let b = c.loop-x.auto.x-end (let n = c.requires.inside.1 in omega arith) in let t = c.loop-x-test.false in
    (taken_trans c.in_ok-hold.ensures.0 r.taken, omega arith, row_is r, omega arith)
