use Rattle.std.proofs.lemmas.Bool.{false≢true}
use Rattle.std.proofs.Common.{refl, sym, ap, ◌∙◌, subst}
use Rattle.slots.specs.Stores.{mem, table}
use Rattle.probe.specs.Places.{Countable, counts_of}
use Rattle.probe.proofs.Counting.{countable, leaf_count, four_count}
use Rattle.probe.proofs.count_of.Goals as goal

pub returns-then-is_leaf : goal.returns-then-is_leaf
returns-then-is_leaf c = λ d e. c.from.ensures ∙ c.count.ensures ∙ leaf_count (table c.args.store.now) c.args.node (c.if-is_leaf.ensures.0 refl) d e

pub sum_counts-requires : goal.sum_counts-requires
sum_counts-requires c = let s = c.args.store.now in
    record {
      laid = c.requires.good.laid;
      within = subst (Countable s.at s.slots (mem s)) (sym c.quarters.ensures)
          (countable s.at s.slots s.top s.left (mem s) c.args.node c.requires.good c.requires.proper (λ e. false≢true (c.if-is_leaf.ensures.1 e)));
    }

pub returns : goal.returns
returns c = λ d e.
    let s = c.args.store.now in
    c.sum_counts.ensures ∙ ap (counts_of s.at (mem s)) c.quarters.ensures ∙
    four_count s.at s.slots s.top s.left (mem s) c.args.node c.requires.good c.requires.proper (λ e. false≢true (c.if-is_leaf.ensures.1 e)) d e
