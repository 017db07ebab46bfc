use Rattle.trees.specs.Growing.{grown}
use Rattle.trees.proofs.Rows.{taken_from, row_new, row_holds, row_is}
use Rattle.trees.proofs.grow_held.Goals as goal

pub returns : goal.returns
returns c =
    let e = c.in_ok-number.ensures in let f = c.take.ensures in
    let r = row_new (λ j. grown c.args.leaves c.args.depth c.args.place) e.is f.same f.good f.pushed f.is in
    (taken_from e.kept r.taken, row_holds r, row_is r)
