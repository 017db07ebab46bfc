use Rattle.std.proofs.Common.{rules}
use Rattle.trees.proofs.Rows.{kept_trans}
use Rattle.trees.proofs.often.Goals as goal

pub returns-in_err-number-clause-kept : goal.returns-in_err-number-clause-kept
returns-in_err-number-clause-kept g c = kept_trans c.loop-turn.invariant.0 (c.requires.steady _ _ _ _ c.in_err-number.ensures)

pub loop-turn-preserved : goal.loop-turn-preserved
loop-turn-preserved g c = (kept_trans c.loop-turn.invariant.0 (c.requires.steady _ _ _ _ c.in_ok-number.ensures), search rules)
