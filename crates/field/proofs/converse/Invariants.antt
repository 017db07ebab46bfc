use Rattle.std.proofs.Common.{◌≡◌, length}
use Rattle.field.proofs.converse.Given as goal

abbrev pub invariant-loop : goal.invariant-loop
invariant-loop g l = g.F.Field.good l.field l.mem × (length l.out ≡ length l.initial.out)
