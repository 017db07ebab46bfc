use Rattle.store.proofs.Interning.{leaf_interned}
use Rattle.store.proofs.intern_leaf.Goals as goal

pub returns-clause-is : goal.returns-clause-is
returns-clause-is c =
    let e = c.intern_node.ensures in leaf_interned c.args.store.now c.intern_node.new.store c.args.cells c.leaf.result c.intern_node.result c.leaf.ensures e.good e.added
