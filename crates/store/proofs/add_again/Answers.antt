use Rattle.std.proofs.Common.{sym, subst}
use Rattle.store.specs.Interning.{Added}
use Rattle.store.proofs.Interning.{added_given}
use Rattle.store.proofs.add_again.Goals as goal

pub returns-clause-added : goal.returns-clause-added
returns-clause-added c =
    let v = c.args.store.now in let w = c.add.new.store in let x = c.args.node in let e = c.add.ensures in
    subst (Added v w x) (sym c.ok_or.ensures.value) (added_given v w x c.add.result _ e.cut e.added.given)
