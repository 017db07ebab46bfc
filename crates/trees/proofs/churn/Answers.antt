use Rattle.std.proofs.Common.{arith, rules}
use Rattle.trees.proofs.Growing.{inside_row}
use Rattle.trees.proofs.churn.Goals as goal

pub often-requires-clause-callable : goal.often-requires-clause-callable
often-requires-clause-callable c = λ w x l k.
    let t = k.top in let good = k.good in let r = c.requires.room in let i = c.requires.inside in let d = i.0 in let n = i.1 in let inside = inside_row c.args.depth x d (omega arith) in
    search rules
