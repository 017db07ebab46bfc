use Rattle.leaf.proofs.CellLaws.{fill_row, run_fits}
use Rattle.leaf.proofs.with_row.Goals as goal

pub overflow_sub-run : goal.overflow_sub-run
overflow_sub-run c = run_fits c.args.a c.args.b c.requires.order c.requires.room

pub returns : goal.returns
returns c u v hu hv = fill_row c.args.w c.args.y c.args.a c.args.b u v c.requires.row c.requires.room c.requires.order hu hv
