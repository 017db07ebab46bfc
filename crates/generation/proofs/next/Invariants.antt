use Rattle.std.proofs.Common.{◌≡◌, ◌+◌}
use Rattle.lent.specs.Mem.{mem, Same}
use Rattle.lent.specs.Stretches.{Beside}
use Rattle.rules.specs.Laws.{law}
use Rattle.generation.specs.Scan.{RowsAt, Progress, row_start, rows_left}
use Rattle.generation.proofs.next.Given as goal

abbrev pub invariant-loop-rule : goal.invariant-loop-rule
invariant-loop-rule l =
    Same l.initial.words l.words × Beside l.to (mem l.initial.words) (mem l.words) × RowsAt (mem l.words) l.from l.rows × (l.made.at ≡ l.to) ×
    Progress (law l.rule) (mem l.words) l.from l.made.at l.made.len (row_start (l.rows.top + 1))

abbrev pub decreases-loop-rule : goal.decreases-loop-rule
decreases-loop-rule l = rows_left l.from l.rows
