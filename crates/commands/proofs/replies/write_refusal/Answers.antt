use Rattle.std.proofs.Common.{decimal, ap, ◌∙◌, arith}
use Rattle.answers.proofs.Writing.{wrote_both, wrote_as, decimal_short}
use Rattle.commands.proofs.Writing.{holds_wrote}
use Rattle.commands.proofs.replies.write_refusal.Goals as goal

pub returns : goal.returns
returns c =
    holds_wrote
    (wrote_both c.text-at.ensures (wrote_as (ap decimal (c.from.ensures ∙ c.number.ensures)) c.number-2.ensures))
    (omega (arith, decimal_short c.from.result (omega arith)))
