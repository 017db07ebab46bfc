use Rattle.std.proofs.Common.{arith}
use Rattle.lent.specs.Mem.{seen}
use Rattle.lent.proofs.Chunks.{pairs_in}
use Rattle.lent.proofs.list.CellList.entries.Goals as goal

pub returns : goal.returns
returns c =
    let h = c.args.self.listed in let within = h.within in let few = h.few in
    pairs_in (seen c.args.self.view) c.args.self.stretch c.as_chunks.result.0.now (omega arith) c.as_chunks.ensures.front c.as_chunks.ensures.front_len
