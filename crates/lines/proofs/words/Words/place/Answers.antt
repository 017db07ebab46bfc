use Rattle.lines.proofs.Reading.{read_place}
use Rattle.lines.proofs.words.Words.place.Goals as goal

pub returns-clause-is : goal.returns-clause-is
returns-clause-is c = let here = c.in_ok-word.ensures.steps in rw here (read_place _ _ c.number.result (λ r h. h.0) c.number.ensures)
