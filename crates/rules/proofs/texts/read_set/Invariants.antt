use Rattle.std.proofs.Common.{◌≡◌, ◌-◌, ◌^◌, ◌<◌}
use Rattle.rules.specs.Texts.{reads, set_at_front}
use Rattle.rules.proofs.texts.read_set.Given as goal

abbrev pub invariant-loop-n : goal.invariant-loop-n
invariant-loop-n l = (reads (9 - l.n) l.n l.bits l.rest ≡ set_at_front l.text) × (l.bits < 2 ^ l.n)
