use Rattle.std.proofs.Common.{◌≡◌}
use Rattle.lent.specs.Mem.{mem, Same}
use Rattle.lent.specs.Stretches.{Beside}
use Rattle.rules.specs.Laws.{law}
use Rattle.generation.specs.Scan.{Window, Progress, weight, centre_of}
use Rattle.generation.proofs.next_row.Given as goal

abbrev pub invariant-loop-rule : goal.invariant-loop-rule
invariant-loop-rule l =
    Same l.initial.words l.words × Beside l.initial.grown.at (mem l.initial.words) (mem l.words) × Window (mem l.words) l.from l.sweep ×
    (l.sweep.above.row ≡ l.initial.sweep.above.row) × (l.grown.at ≡ l.initial.grown.at) ×
    Progress (law l.rule) (mem l.words) l.from l.grown.at l.grown.len (centre_of l.sweep)

abbrev pub decreases-loop-rule : goal.decreases-loop-rule
decreases-loop-rule l = weight l.sweep
