use Rattle.lent.specs.Lists.{words_of, stretch_of}
use Rattle.generation.proofs.RowLaws.{window_start}
use Rattle.generation.proofs.scan.Sweep.start.Goals as goal

pub returns-clause-window : goal.returns-clause-window
returns-clause-window c =
    window_start (words_of c.args.list) (stretch_of c.args.list) c.args.rows c.new.result c.new-2.result c.new-3.result c.args.list.listed c.requires
    c.new.ensures c.new-2.ensures c.new-3.ensures
