use Rattle.lent.specs.Lists.{words_of, stretch_of}
use Rattle.generation.proofs.RowLaws.{rows_slide}
use Rattle.generation.proofs.scan.Rows.slide.Goals as goal

pub returns-clause-rows : goal.returns-clause-rows
returns-clause-rows c =
    let e = c.row_end-end.ensures in
    (rows_slide (words_of c.args.list) (stretch_of c.args.list) c.args.self.now c.row_end-end.result c.args.list.listed c.requires.0 c.requires.1
    (record { low = e.low; high = e.high; inside = e.inside; ends = e.ends })).0
