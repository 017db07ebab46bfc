use Rattle.std.proofs.Common.{◌≡◌, cond, arith}
use Rattle.rules.proofs.Flags.{fate_is}
use Rattle.rules.proofs.bits.Rule.fate.Goals as goal
use Rattle.rules.proofs.bits.Rule.fate.Goals.{then-alive, else-alive}

pub returns : goal.returns
returns c =
    let set_is : c.if-alive.set ≡ cond c.args.alive c.args.self.stays c.args.self.born =
    elim c.if-alive.branch [ then-alive w ↦ grind arith | else-alive w ↦ grind arith ] in
    fate_is c.args.self.born c.args.self.stays _ c.args.neighbours c.args.alive c.args.self.good c.requires set_is
