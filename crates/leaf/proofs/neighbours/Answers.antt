use Rattle.std.proofs.Common.{◌+◌, ◌∙◌}
use Rattle.model.specs.Rules.{tally}
use Rattle.leaf.proofs.Plain.{count_is}
use Rattle.leaf.proofs.neighbours.Goals as goal

pub returns-clause-is : goal.returns-clause-is
returns-clause-is c =
    (λ i. c.from.ensures i + c.from-2.ensures i + c.from-3.ensures i + (c.from-4.ensures i + c.from-5.ensures i) + (c.from-6.ensures i + c.from-7.ensures i + c.from-8.ensures i)) ∙
    count_is _ _ _ _ _ _ _ _ ∙
    (λ i. tally (c.cell.ensures i) (c.cell-2.ensures i) (c.cell-3.ensures i) (c.cell-4.ensures i) (c.cell-5.ensures i) (c.cell-6.ensures i) (c.cell-7.ensures i) (c.cell-8.ensures i))
