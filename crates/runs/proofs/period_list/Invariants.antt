use Rattle.std.proofs.Common.{◌-◌}
use Rattle.lent.specs.Mem.{mem, Same}
use Rattle.lent.specs.Stretches.{cells_in}
use Rattle.rules.specs.Laws.{law}
use Rattle.runs.proofs.Staging.{Running, Searching}
use Rattle.runs.proofs.period_list.Given as goal

abbrev pub invariant-loop-t : goal.invariant-loop-t
invariant-loop-t l =
    Same l.initial.words l.words × Running (law l.rule) (mem l.initial.words) (mem l.words) l.home l.last (l.t - 1) ×
    Searching (law l.rule) (cells_in (mem l.initial.words) l.home) l.bound (l.t - 1) (cells_in (mem l.words) l.last)
