use Prim.Native.Nat.{◌%◌}
use Rattle.nodes.specs.Memory.{view}
use Rattle.slots.proofs.Store.node.Goals as goal

pub returns : goal.returns
unfolding view
returns c = λ i. record { state = c.word.ensures i % 128; upper = c.word-2.ensures i; lower = c.word-3.ensures i }
