use Rattle.lines.proofs.Promise.{words_right, numbers_right, examples, refusals}
use Rattle.lines.proofs.Lengths.{rows_short}
use Rattle.lines.proofs.reading_stands.Goals as goal

pub returns : goal.returns
returns c = (words_right, numbers_right, rows_short, examples, refusals)
