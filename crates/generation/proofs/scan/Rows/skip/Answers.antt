use Rattle.std.proofs.Common.{ap, arith, sym, ◌∙◌}
use Rattle.lent.specs.declared.Entry.{Entry}
use Rattle.lent.specs.Lists.{words_of, stretch_of}
use Rattle.generation.proofs.RowLaws.{rows_jump}
use Rattle.generation.proofs.scan.Rows.skip.Goals as goal

pub returns : goal.returns
returns c =
    let e = c.row_end-end.ensures in
    rows_jump (words_of c.args.list) (stretch_of c.args.list) c.args.self.now c.at-row.result.row c.row_end-end.result c.args.list.listed c.requires (omega arith)
    (λ z. c.if-self-len.false (z ∙ sym c.len.ensures)) (ap (λ (u : Entry). u.row) c.at-row.ensures.value)
    (record { low = e.low; high = e.high; inside = e.inside; ends = e.ends })
