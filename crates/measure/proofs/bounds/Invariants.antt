use Rattle.std.proofs.Common.{◌≡◌, ◌<◌}
use Rattle.lent.specs.Lists.{words_of, stretch_of}
use Rattle.measure.proofs.Boxes.{box_from}
use Rattle.measure.proofs.bounds.Given as goal

abbrev pub invariant-loop-i : goal.invariant-loop-i
invariant-loop-i l = (0 < l.i) × (l.bounds ≡ box_from (words_of l.list) (stretch_of l.list) l.i)
