use Rattle.trees.proofs.Rows.{kept_trans}
use Rattle.storebench.proofs.collections.Goals as goal

pub returns-in_err-tally : goal.returns-in_err-tally
returns-in_err-tally c = kept_trans c.loop-turn.invariant c.sow.ensures.kept

pub returns-in_err-start : goal.returns-in_err-start
returns-in_err-start c = kept_trans c.loop-turn.invariant c.sow.ensures.kept

pub returns-in_err-elapsed : goal.returns-in_err-elapsed
returns-in_err-elapsed c =
    let e = c.collect.ensures in kept_trans (kept_trans c.loop-turn.invariant c.sow.ensures.kept) (record { same = e.same; good = e.good; still = e.still; top = e.top })

pub loop-turn-preserved : goal.loop-turn-preserved
loop-turn-preserved c =
    let e = c.collect.ensures in kept_trans (kept_trans c.loop-turn.invariant c.sow.ensures.kept) (record { same = e.same; good = e.good; still = e.still; top = e.top })
