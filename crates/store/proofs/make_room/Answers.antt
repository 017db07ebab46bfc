use Rattle.std.proofs.Common.{refl}
use Rattle.std.proofs.lemmas.Bool.{false≢true}
use Rattle.store.proofs.Interning.{four_of, kept_four, kept_leaf}
use Rattle.store.proofs.make_room.Goals as goal

pub collect_but-requires-clause-has : goal.collect_but-requires-clause-has
collect_but-requires-clause-has c =
    four_of c.args.store.now c.depth.result c.args.node c.quarters-quarters.result c.requires.proper c.quarters-quarters.ensures c.depth.ensures (λ e. false≢true (c.if-is_leaf.ensures.1 e))

pub returns-then-is_leaf-clause-kept : goal.returns-then-is_leaf-clause-kept
returns-then-is_leaf-clause-kept c = kept_leaf c.args.store.now c.collect.new.store c.args.node c.requires.proper (c.if-is_leaf.ensures.0 refl)

pub returns-else-is_leaf-clause-kept : goal.returns-else-is_leaf-clause-kept
returns-else-is_leaf-clause-kept c =
    kept_four c.args.store.now c.collect_but.new.store c.depth.result c.args.node c.quarters-quarters.result c.requires.proper c.quarters-quarters.ensures c.depth.ensures c.collect_but.ensures.kept
