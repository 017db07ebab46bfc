use Rattle.lent.specs.Mem.{mem, Same}
use Rattle.rules.specs.Laws.{law}
use Rattle.runs.proofs.Staging.{Running}
use Rattle.runs.proofs.run_list.Given as goal

abbrev pub invariant-loop : goal.invariant-loop
invariant-loop l = Same l.initial.words l.words × Running (law l.rule) (mem l.initial.words) (mem l.words) l.home l.last l.counter
