-- The store as a struct over lent words.
use Rattle.std.specs.Prelude.{◌≡◌, Bool, List, ℕ, length}
use Rattle.model.specs.Squares.{Square}
use Rattle.nodes.specs.Nodes.{Table, Valid, IsAt}
use Rattle.nodes.specs.Memory.{LaidAt, GoodAt, KeepsAt, GrowsAt, view}
use Rattle.nodes.specs.Marking.{ClosedAt}
use Rattle.slots.specs.declared.Store.{Store}

abbrev pub mem : Store → List ℕ
mem s = s.words.now

-- still the words of the same lender
abbrev pub Same : Store → Store → Type 0
Same v w = w.words.ghost_name ≡ v.words.ghost_name

-- the plain numbers are as they were
pub record Fixed (v w : Store) : Type 0 where
  pub at : w.at ≡ v.at
  pub slots : w.slots ≡ v.slots
  pub top : w.top ≡ v.top
  pub left : w.left ≡ v.left
  pub long : length (mem w) ≡ length (mem v)

-- and those that say where the store lies and how many squares are held
pub record Cut (v w : Store) : Type 0 where
  pub at : w.at ≡ v.at
  pub slots : w.slots ≡ v.slots
  pub top : w.top ≡ v.top
  pub long : length (mem w) ≡ length (mem v)

abbrev pub Laid : Store → Type 0
Laid s = LaidAt s.at s.slots s.top (mem s)

abbrev pub Good : Store → Type 0
Good s = GoodAt s.at s.slots s.top s.left (mem s)

-- which node each slot holds
abbrev pub table : Store → Table
table s = view s.at (mem s)

-- only squares are marked, and the quarters of a marked square are
abbrev pub Closed : Store → Type 0
Closed s = ClosedAt s.at s.slots (mem s)

-- the number i stands for a square of depth d
abbrev pub Has : Store → ℕ → ℕ → Type 0
Has s d i = Valid s.slots (table s) d i

-- the number i stands for the square q of depth d
abbrev pub Is : Store → (d i : ℕ) → Square Bool → Type 0
Is s d i q = IsAt s.slots (table s) d i q

-- the store lies where it lay, and the first t holds are as they were, and keep the squares that they kept
pub record Still (t : ℕ) (v w : Store) : Type 0 where
  pub at : w.at ≡ v.at
  pub slots : w.slots ≡ v.slots
  pub long : length (mem w) ≡ length (mem v)
  pub keeps : KeepsAt v.at v.slots t (mem v) (mem w)

-- every number means what it meant
abbrev pub Grows : Store → Store → Type 0
Grows v w = GrowsAt v.at v.slots (mem v) (mem w)
