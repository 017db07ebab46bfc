use Rattle.std.proofs.Common.{arith}
use Rattle.lent.specs.Mem.{seen}
use Rattle.lent.proofs.Listing.{listed_near}
use Rattle.lent.proofs.list.CellList.at.Goals as goal

pub returns-clause-near : goal.returns-clause-near
returns-clause-near c =
    let n = listed_near (seen c.args.self.view) c.args.self.stretch c.args.self.listed c.args.i c.requires in let row = n.0.1 in let column = n.1.1 in
    record { row = omega arith; column = omega arith }
