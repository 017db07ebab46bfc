use Rattle.std.proofs.Common.{suc, ◌+◌, false, refl, arith, rules}
use Rattle.model.specs.Squares.{padded}
use Rattle.strides.proofs.Steps.{lone_framed, outcome_depth}
use Rattle.strides.proofs.pad_number.Goals as goal

pub while_held-requires-clause-callable : goal.while_held-requires-clause-callable
while_held-requires-clause-callable c = λ w good pushed.
    let framed = lone_framed c.args.store.now w.now c.args.below c.args.number c.args.store.now.top (c.args.below + 1) (omega arith) refl c.requires good pushed in
    let top = pushed.top in let room = c.requires.room in search rules

pub returns-clause-padded : goal.returns-clause-padded
returns-clause-padded c = let b = c.args.below in
    c.while_held.ensures.given (suc (suc b)) (suc (suc (suc b))) (padded false (suc (suc (suc (suc b))))) (λ w r w' p. outcome_depth w.now w'.now b (b + 1) c.args.store.now.top r (omega arith) (search rules))
