-- The nine squares that overlap inside a square, three in each of three rows, each half as wide as it.
use Rattle.std.specs.Prelude.{◌≡◌, ℕ, zero, suc, ◌+◌, ◌/◌, ◌%◌, Bool, Ok, Err, Result}
use Rattle.model.specs.Squares.{Square, Four, nw, ne, sw, se, middle}
use Rattle.model.specs.declared.quarters.Quarters.{Quarters}
use Rattle.nodes.specs.Nodes.{Full}
use Rattle.slots.specs.declared.Store.{Store}
use Rattle.slots.specs.Stores.{Good, Is, Still, table}
use Rattle.holds.specs.Holding.{Keeping}
use Rattle.store.specs.declared.Full.{Full as NoRoom}

-- the quarter in this row and column, 0 or 1 each
abbrev pub quarter_at : (row column : ℕ) → Square Bool → Square Bool
quarter_at zero zero q = nw q
quarter_at zero (suc c) q = ne q
quarter_at (suc r) zero q = sw q
quarter_at (suc r) (suc c) q = se q

-- the quarter of a quarter in this row and column, 0 to 3 each
abbrev pub sixteenth : (row column : ℕ) → Square Bool → Square Bool
sixteenth r c q = quarter_at (r % 2) (c % 2) (quarter_at (r / 2) (c / 2) q)

-- the square of four of them, the upper left one in this row and column, 0 to 2 each
abbrev pub piece_at : (row column : ℕ) → Square Bool → Square Bool
piece_at r c q = Four (sixteenth r c q) (sixteenth r (c + 1) q) (sixteenth (r + 1) c q) (sixteenth (r + 1) (c + 1) q)

abbrev pub ninth : ℕ → Square Bool → Square Bool
ninth i q = piece_at (i / 3) (i % 3) q

-- all holds are as they were
pub record Steady (v w : Store) : Type 0 where
  pub still : Still v.top v w
  pub top : w.top ≡ v.top

-- the answer is the number of f q, of depth d, for the square q of depth e that hold k keeps; or the store is full
abbrev pub Answers : (e d k : ℕ) → (Square Bool → Square Bool) → Store → Store → Result ℕ NoRoom → Type 0
Answers e d k f v w (Ok i) = (q : Square Bool) → Keeping v k e q → Is w d i (f q)
Answers e d k f v w (Err _) = Full w.slots (table w)

-- all that work on the square that hold k keeps gives: a good store, the holds as they were, and the answer
pub record Outcome (v w : Store) (e d k : ℕ) (f : Square Bool → Square Bool) (o : Result ℕ NoRoom) : Type 0 where
  pub good : Good w
  pub steady : Steady v w
  pub is : Answers e d k f v w o

-- the same of the number of a square that is not held
abbrev pub Gives : (e d i : ℕ) → (Square Bool → Square Bool) → Store → Store → Result ℕ NoRoom → Type 0
Gives e d i f v w (Ok l) = (q : Square Bool) → Is v e i q → Is w d l (f q)
Gives e d i f v w (Err _) = Full w.slots (table w)

pub record Given (v w : Store) (e d i : ℕ) (f : Square Bool → Square Bool) (o : Result ℕ NoRoom) : Type 0 where
  pub good : Good w
  pub steady : Steady v w
  pub is : Gives e d i f v w o

-- the number of the middle of four squares of depth d, or the store is full
abbrev pub IsMiddle : Store → Store → ℕ → Quarters ℕ → Result ℕ NoRoom → Type 0
IsMiddle v w d q (Ok i) = (a b c e : Square Bool) → Is v d q.nw a → Is v d q.ne b → Is v d q.sw c → Is v d q.se e → Is w d i (middle (Four a b c e))
IsMiddle v w d q (Err _) = Full w.slots (table w)

pub record MiddleGiven (v w : Store) (d : ℕ) (q : Quarters ℕ) (o : Result ℕ NoRoom) : Type 0 where
  pub good : Good w
  pub steady : Steady v w
  pub is : IsMiddle v w d q o
