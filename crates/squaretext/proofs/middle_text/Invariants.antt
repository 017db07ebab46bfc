use Rattle.std.proofs.Common.{◌≡◌, ℕ, ◌<◌, get_or}
use Rattle.squaretext.specs.Asked.{byte_of_middle}
use Rattle.squaretext.proofs.middle_text.Given as goal

abbrev pub invariant-loop-place : goal.invariant-loop-place
invariant-loop-place l = (k : ℕ) → k < l.place → get_or l.byte-items k 0 ≡ byte_of_middle l.w k
