use Rattle.std.proofs.Common.{sym, subst}
use Rattle.slots.specs.Stores.{Is}
use Rattle.pieces.specs.Nine.{quarter_at}
use Rattle.pieces.proofs.Nine.{quarter_is}
use Rattle.pieces.proofs.quarter.Goals as goal

pub returns : goal.returns
returns c = λ d q h. subst (λ i. Is c.args.store.now d i (quarter_at c.args.row c.args.column q)) (sym c.at.ensures) (quarter_is _ d c.args.row c.args.column q _ (c.quarters.ensures d q h))
