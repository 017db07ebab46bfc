use mathlib.Core.Path.{ap, ◌∙◌}
use Prim.Native.Nat.{ℕ, ◌%◌}
use Rattle.nodes.specs.Memory.{view}
use Rattle.slots.proofs.Store.state.Goals as goal

pub returns-clause-is : goal.returns-clause-is
unfolding view
returns-clause-is c = c.from.ensures ∙ ap (λ (t : ℕ). t % 128) c.word.ensures
