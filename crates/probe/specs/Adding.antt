-- A node added to the store.
use Rattle.std.specs.Prelude.{◌≡◌, ℕ, ◌+◌, Some, None, Option}
use Rattle.nodes.specs.declared.Node.{Node}
use Rattle.nodes.specs.Nodes.{IsAt, Full}
use Rattle.nodes.specs.Memory.{base, FrontAt, GrowsAt}
use Rattle.slots.specs.declared.Store.{Store}
use Rattle.slots.specs.Stores.{mem, table}
use Rattle.probe.specs.Places.{square_in}

-- the words before the slots are as they were, and all numbers mean what they meant
pub record Grown (v w : Store) : Type 0 where
  pub front : FrontAt (base v.at) (mem v) (mem w)
  pub grows : GrowsAt v.at v.slots (mem v) (mem w)

-- the answer stands for the node's square, or there is none, for want of room
abbrev pub Given : Store → Store → Node → Option ℕ → Type 0
Given v w x (Some i) = (d : ℕ) → x.state ≡ d + 2 → IsAt v.slots (table w) d i (square_in (table v) d x)
Given v w x None = (mem w ≡ mem v) × Full v.slots (table v)

pub record Added (v w : Store) (x : Node) (r : Option ℕ) : Type 0 where
  pub grown : Grown v w
  pub given : Given v w x r
