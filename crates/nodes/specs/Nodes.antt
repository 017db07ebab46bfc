-- Squares as nodes. A leaf is a word of 64 cells; any other square is the numbers of its four quarters. Its depth is how often it is cut until leaves are reached, so its level is the depth and 3.
use Rattle.std.specs.Prelude.{◌≡◌, Bool, cond, ℕ, zero, suc, ◌+◌, ◌-◌, ◌*◌, ◌/◌, ◌%◌, ◌^◌, ◌<◌, ◌≤◌, leb}
use Rattle.model.specs.Squares.{Square, Four}
use Rattle.leaf.specs.AsSquares.{word_square}
use Rattle.nodes.specs.declared.Node.{Node}
use Rattle.model.specs.declared.quarters.Quarters.{Quarters}

-- which node each slot holds; a square's number is its slot
abbrev pub Table : Type 0
Table = ℕ → Node

-- two numbers in one word
abbrev pub pair : ℕ → ℕ → ℕ
pair a b = a + 2 ^ 32 * b

abbrev pub first : ℕ → ℕ
first w = w % 2 ^ 32

abbrev pub second : ℕ → ℕ
second w = w / 2 ^ 32

-- the node of a leaf with these cells
abbrev pub leaf_node : ℕ → Node
leaf_node w = record { state = 2; upper = w; lower = 0 }

-- the node whose quarters are these squares of depth d
abbrev pub four_node : (d nw ne sw se : ℕ) → Node
four_node d nw ne sw se = record { state = d + 3; upper = pair nw ne; lower = pair sw se }

-- the quarters of a node that is no leaf
abbrev pub quarters_of : Node → Quarters ℕ
quarters_of x = record { nw = first x.upper; ne = second x.upper; sw = first x.lower; se = second x.lower }

-- the square of depth d that slot i stands for
unfoldable pub square_of : Table → ℕ → ℕ → Square Bool
square_of v zero i = word_square (v i).upper
square_of v (suc d) i =
    Four (square_of v d (first (v i).upper)) (square_of v d (second (v i).upper)) (square_of v d (first (v i).lower)) (square_of v d (second (v i).lower))

-- one of the n slots, and it holds a square of depth d: a slot's state is 0 if it is empty, 1 if it is free, else the depth of its square and 2
pub record Valid (n : ℕ) (v : Table) (d i : ℕ) : Type 0 where
  pub here : i < n
  pub deep : (v i).state ≡ d + 2

pub record Kids (n : ℕ) (v : Table) (d : ℕ) (x : Node) : Type 0 where
  pub knw : Valid n v d (first x.upper)
  pub kne : Valid n v d (second x.upper)
  pub ksw : Valid n v d (first x.lower)
  pub kse : Valid n v d (second x.lower)

-- the square s of depth d has the number i
pub record IsAt (n : ℕ) (v : Table) (d i : ℕ) (s : Square Bool) : Type 0 where
  pub valid : Valid n v d i
  pub same : square_of v d i ≡ s

-- how many slots forward u is from h; after the last comes the first
abbrev pub away : ℕ → ℕ → ℕ → ℕ
away n h u = cond (leb h u) (u - h) (u + n - h)

-- Where the search for a node begins. It says where to look and nothing else; any function would do.
unfoldable pub home_of : ℕ → Node → ℕ
home_of n x = (x.upper * 11400714819323198485 % 2 ^ 64 + x.lower * 14029467366897019727 % 2 ^ 64) % 2 ^ 64 / 2 ^ 32 * n / 2 ^ 32

pub record Sound (n : ℕ) (v : Table) : Type 0 where
  -- a square's quarters are squares, one less deep
  pub kids : (i d : ℕ) → Valid n v (suc d) i → Kids n v d (v i)
  pub leaves : (i : ℕ) → Valid n v 0 i → ((v i).upper < 2 ^ 64) × ((v i).lower ≡ 0)
  -- no slot between a square's home and its slot is empty, so the search for it, which ends at an empty one, comes to it
  pub packed : (i u : ℕ) → i < n → u < n → 2 ≤ (v i).state → away n (home_of n (v i)) u < away n (home_of n (v i)) i → 0 < (v u).state
  -- no node stands twice
  pub once : (i j : ℕ) → i < n → j < n → 2 ≤ (v i).state → v i ≡ v j → i ≡ j

-- Two numbers of a depth that stand for the same square are one number.
abbrev pub SquaresOnce : Type 0
SquaresOnce = (n : ℕ) (v : Table) → Sound n v → (d i j : ℕ) (s : Square Bool) → IsAt n v d i s → IsAt n v d j s → i ≡ j

-- how many of the slots below k hold squares
unfoldable pub used : Table → ℕ → ℕ
used v zero = 0
used v (suc k) = used v k + cond (leb 2 (v k).state) 1 0

-- so many squares are held before a collection is due
abbrev pub limit : ℕ → ℕ
limit n = n - 3 * n / 16

-- at least three quarters of the slots hold squares
abbrev pub Full : ℕ → Table → Type 0
Full n v = 3 * n ≤ 4 * used v n
