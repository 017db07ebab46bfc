-- The place of a node in the table.
use Rattle.std.specs.Prelude.{◌≡◌, ℕ, zero, suc, ◌+◌, ◌^◌, ◌<◌, ◌≤◌, Bool, List, ◌≢◌}
use Rattle.model.specs.Squares.{Square, Four}
use Rattle.leaf.specs.AsSquares.{word_square}
use Rattle.nodes.specs.declared.Node.{Node}
use Rattle.model.specs.declared.quarters.Quarters.{Quarters}
use Rattle.nodes.specs.Nodes.{Table, first, second, Kids, square_of, away, home_of, used}
use Rattle.nodes.specs.Memory.{base, word, tag, count_in, FrontAt}
use Rattle.probe.specs.declared.Place.{Place}
use Rattle.probe.specs.declared.Place.TheVariants.{Old, New, Nowhere}

-- a node that may stand in the table: a leaf's, or that of four squares of one depth; its level is at most 63, so its count fits in two words
pub record Proper (n : ℕ) (v : Table) (x : Node) : Type 0 where
  pub some : 2 ≤ x.state
  pub most : x.state ≤ 62
  pub leaf : x.state ≡ 2 → (x.upper < 2 ^ 64) × (x.lower ≡ 0)
  pub kids : (p : ℕ) → x.state ≡ p + 3 → Kids n v p x

-- the square of a node of depth d
unfoldable pub square_in : Table → ℕ → Node → Square Bool
square_in v zero x = word_square x.upper
square_in v (suc d) x =
    Four (square_of v d (first x.upper)) (square_of v d (second x.upper)) (square_of v d (first x.lower)) (square_of v d (second x.lower))

-- slots whose counts can be added up
pub record Countable (a n : ℕ) (m : List ℕ) (q : Quarters ℕ) : Type 0 where
  pub wnw : q.nw < n
  pub wne : q.ne < n
  pub wsw : q.sw < n
  pub wse : q.se < n
  pub cnw : count_in a m q.nw < 2 ^ 125
  pub cne : count_in a m q.ne < 2 ^ 125
  pub csw : count_in a m q.sw < 2 ^ 125
  pub cse : count_in a m q.se < 2 ^ 125

abbrev pub counts_of : ℕ → List ℕ → Quarters ℕ → ℕ
counts_of a m q = count_in a m q.nw + count_in a m q.ne + (count_in a m q.sw + count_in a m q.se)

-- slot s holds no square, the search for x comes to it, and x stands nowhere
pub record Fit (n : ℕ) (v : Table) (x : Node) (s : ℕ) : Type 0 where
  pub within : s < n
  pub free : (v s).state < 2
  pub full : (u : ℕ) → u < n → away n (home_of n x) u < away n (home_of n x) s → 0 < (v u).state
  pub none : (j : ℕ) → j < n → v j ≢ x

-- what is found of a node: its number; a place for it; or neither, where all slots hold squares
unfoldable pub Found : ℕ → Table → Node → Place → Type 0
Found n v x (Old i) = (i < n) × (v i ≡ x)
Found n v x (New s) = Fit n v x s
Found n v x Nowhere = used v n ≡ n

-- slot s was given the node x with its count, and no notes; all other slots are as they were
pub record Filled (a s : ℕ) (x : Node) (count : ℕ) (m w : List ℕ) : Type 0 where
  pub front : FrontAt (base a) m w
  pub beside : (j f : ℕ) → f < 7 → (j ≢ s) → word a w j f ≡ word a m j f
  pub tagged : tag a w s ≡ x.state
  pub upper : word a w s 1 ≡ x.upper
  pub lower : word a w s 2 ≡ x.lower
  pub leap : word a w s 3 ≡ 0
  pub further : word a w s 4 ≡ 0
  pub counts : count_in a w s ≡ count
