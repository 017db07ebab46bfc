use Rattle.std.proofs.Common.{◌≡◌, ◌-◌}
use Rattle.model.specs.World.{farthest}
use Rattle.lent.specs.Lists.{words_of, stretch_of}
use Rattle.lent.specs.Stretches.{tab, entry}
use Rattle.measure.proofs.farthest_out.Given as goal

abbrev pub invariant-loop-i : goal.invariant-loop-i
invariant-loop-i l = l.most ≡ farthest (tab (entry (words_of l.list) (stretch_of l.list).at) l.i ((stretch_of l.list).len - l.i))
