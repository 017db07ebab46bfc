use Rattle.std.proofs.Common.{rules}
use Rattle.trees.proofs.Rows.{holds_kept}
use Rattle.trees.proofs.weave_often.Goals as goal

pub often-requires-clause-callable : goal.often-requires-clause-callable
often-requires-clause-callable c = λ w turn l k. let good = k.good in let bed = holds_kept k c.requires.bed in search rules

pub returns-clause-bed : goal.returns-clause-bed
returns-clause-bed c = holds_kept c.often.ensures.kept c.requires.bed
