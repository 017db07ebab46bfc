use Rattle.lines.proofs.Splitting.{done_is}
use Rattle.lines.proofs.words.Words.done.Goals as goal

pub returns : goal.returns
returns c = done_is c.args.self.now c.is_none.result c.is_none.ensures
