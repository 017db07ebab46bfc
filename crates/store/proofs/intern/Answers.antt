use Rattle.std.proofs.Common.{sym, subst}
use Rattle.slots.specs.Stores.{table}
use Rattle.probe.specs.Places.{Proper}
use Rattle.store.proofs.Interning.{proper_four, interned}
use Rattle.store.proofs.intern.Goals as goal

pub intern_node-requires-clause-proper : goal.intern_node-requires-clause-proper
intern_node-requires-clause-proper c =
    let v = c.args.store.now in subst (Proper v.slots (table v)) (sym c.four.ensures) (proper_four v c.args.depth c.args.quarters c.requires.good c.requires.four.0 c.requires.four.1)

pub returns-clause-is : goal.returns-clause-is
returns-clause-is c =
    let e = c.intern_node.ensures in
    interned c.args.store.now c.intern_node.new.store c.args.depth c.args.quarters c.four.result c.intern_node.result c.four.ensures c.requires.good c.requires.four.0 e.good e.added
