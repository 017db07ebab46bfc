-- What interning gives.
use Rattle.std.specs.Prelude.{◌≡◌, ℕ, suc, ◌+◌, ◌-◌, ◌/◌, ◌<◌, Bool, List, Ok, Err, Result}
use Rattle.model.specs.Squares.{Square, Four}
use Rattle.leaf.specs.AsSquares.{word_square}
use Rattle.model.specs.declared.quarters.Quarters.{Quarters}
use Rattle.nodes.specs.Nodes as nodes
use Rattle.nodes.specs.declared.Node.{Node}
use Rattle.probe.specs.Places.{Proper, square_in}
use Rattle.nodes.specs.Memory.{base, tag, FrontAt}
use Rattle.slots.specs.declared.Store.{Store}
use Rattle.slots.specs.Stores.{Is, table}
use Rattle.store.specs.declared.Full.{Full}

-- the number i stands for the square q of depth d, and no other number does
pub record Only (s : Store) (d i : ℕ) (q : Square Bool) : Type 0 where
  pub is : Is s d i q
  pub only : (j : ℕ) → Is s d j q → j ≡ i

-- the number of the square that is made of the quarters' squares; or the store is full: at least three quarters of its slots hold squares
abbrev pub Interned : Store → Store → (d : ℕ) → Quarters ℕ → Result ℕ Full → Type 0
Interned v w d q (Ok i) =
    (a b c e : Square Bool) → Is v d q.nw a → Is v d q.ne b → Is v d q.sw c → Is v d q.se e → Only w (suc d) i (Four a b c e)
Interned v w d q (Err _) = nodes.Full w.slots (table w)

-- the same for a leaf with these cells
abbrev pub LeafInterned : Store → (cells : ℕ) → Result ℕ Full → Type 0
LeafInterned w cells (Ok i) = Only w 0 i (word_square cells)
LeafInterned w cells (Err _) = nodes.Full w.slots (table w)

-- the slots that n words have room for, behind the holds
abbrev pub slots_in : ℕ → ℕ
slots_in n = (n - 2048) / 7

-- a node was added, or the store is full
abbrev pub Added : Store → Store → Node → Result ℕ Full → Type 0
Added v w x (Ok i) = (d : ℕ) → x.state ≡ d + 2 → Is w d i (square_in (table v) d x)
Added v w x (Err _) = nodes.Full w.slots (table w)

-- a node that may stand in the table still may, and stands for the same square
pub record NodeKept (v w : Store) (x : Node) : Type 0 where
  pub proper : Proper w.slots (table w) x
  pub same : (d : ℕ) → x.state ≡ d + 2 → square_in (table w) d x ≡ square_in (table v) d x

-- the first n slots are empty, and the words before the slots are as they were
pub record Cleared (a n : ℕ) (m w : List ℕ) : Type 0 where
  pub front : FrontAt (base a) m w
  pub empty : (i : ℕ) → i < n → tag a w i ≡ 0
