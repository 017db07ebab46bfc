use Rattle.lines.proofs.Reading.{read_natural}
use Rattle.lines.proofs.words.Words.natural.Goals as goal

pub returns-clause-is : goal.returns-clause-is
returns-clause-is c = let here = c.in_ok-next.ensures.steps in rw here (read_natural _ _ c.number.result (λ r h. h.0) c.number.ensures)
