use Rattle.std.proofs.Common.{◌∙◌, arith}
use Rattle.model.specs.Rules.{becomes}
use Rattle.rules.specs.Laws.{law}
use Rattle.leaf.specs.Words.{next_in}
use Rattle.leaf.proofs.Plain.{none_live, none_made, row_ends, all_made, cell_made}
use Rattle.leaf.proofs.generation_plain.Goals as goal

pub loop-y-init : goal.loop-y-init
loop-y-init c u v hu hv = none_live u v ∙ none_made u v (next_in (law c.args.rule) c.args.w u v)

pub loop-x-preserved : goal.loop-x-preserved
loop-x-preserved c u v hu hv =
    cell_made u v _ _ _ _ _ (next_in (law c.args.rule) c.args.w) (omega arith) (omega arith) (omega arith) (omega arith)
    (c.with_cell-next.ensures u v hu hv)
    (c.fate-lives.ensures ∙ (λ i. becomes (law c.args.rule) (c.cell.ensures i) (c.neighbours.ensures.is i)))
    (c.loop-x.invariant u v hu hv)

pub loop-y-preserved : goal.loop-y-preserved
loop-y-preserved c u v hu hv = row_ends u v _ _ _ _ c.loop-x-test.false (c.loop-x.invariant u v hu hv)

pub returns : goal.returns
returns c u v hu hv = all_made u v _ _ _ c.loop-y-test.false (c.loop-y.invariant u v hu hv)
