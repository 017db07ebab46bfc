use Rattle.std.proofs.Common.{suc}
use Rattle.pieces.proofs.Nine.{is_self}
use Rattle.pieces.proofs.small_quarter.Goals as goal

pub quarter-requires : goal.quarter-requires
quarter-requires c = let h = c.requires.has in record { good = c.requires.good; within = (c.quarter-large.ensures (suc h.0) _ (is_self c.args.store.now (suc (suc h.0)) c.args.number h.1)).valid.here }

pub returns : goal.returns
returns c = λ d q h. c.quarter.ensures d _ (c.quarter-large.ensures (suc d) q h)
