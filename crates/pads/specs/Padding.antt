-- Squares with nothing around them.
use Rattle.std.specs.Prelude.{◌≡◌, ℕ, zero, suc, ◌+◌, ◌<◌, ◌≤◌, Bool, false, Ok, Err, Result}
use Rattle.model.specs.Squares.{Square, Four, nw, ne, sw, se, plain, padded}
use Rattle.nodes.specs.Nodes.{Full}
use Rattle.nodes.specs.Memory.{hold_room}
use Rattle.slots.specs.declared.Store.{Store}
use Rattle.slots.specs.Stores.{Good, Has, Is, Still, table}
use Rattle.holds.specs.declared.Hold.{Hold}
use Rattle.holds.specs.Holding.{held}
use Rattle.store.specs.declared.Full.{Full as NoRoom}
use Rattle.pieces.specs.Nine.{Steady, Answers}
use Rattle.pieces.specs.Gathering.{Gathered}

-- the square of depth d in which nothing lives
abbrev pub blank : ℕ → Square Bool
blank d = plain false (suc (suc (suc d)))

-- the number of that square, or the store is full
abbrev pub IsBlank : Store → ℕ → Result ℕ NoRoom → Type 0
IsBlank w d (Ok i) = Is w d i (blank d)
IsBlank w d (Err _) = Full w.slots (table w)

pub record BlankGiven (v w : Store) (d : ℕ) (o : Result ℕ NoRoom) : Type 0 where
  pub good : Good w
  pub steady : Steady v w
  pub is : IsBlank w d o

-- the i-th quarter of a padded square: a quarter of the square q, of depth b, in its inner corner
abbrev pub corner_of : (b i : ℕ) → Square Bool → Square Bool
corner_of b zero q = Four (blank b) (blank b) (blank b) (nw q)
corner_of b (suc zero) q = Four (blank b) (blank b) (ne q) (blank b)
corner_of b (suc (suc zero)) q = Four (blank b) (sw q) (blank b) (blank b)
corner_of b (suc (suc (suc i))) q = Four (se q) (blank b) (blank b) (blank b)

-- a square of depth b + 1 is held at k, and there is room to pad it
pub record Framed (s : Store) (b k : ℕ) : Type 0 where
  pub good : Good s
  pub below : k < s.top
  pub has : Has s (suc b) (held s k)
  pub deep : b < 59

-- a square of depth b + 1 is held at k, nothing by h, which is the last hold, and there is room for four
pub record Starting (s : Store) (h : Hold) (b k : ℕ) : Type 0 where
  pub framed : Framed s b k
  pub room : s.top + 4 ≤ hold_room
  pub parts : Gathered s h k (suc b) (suc b) 0 (corner_of b)

-- the holds below h are as they were, and the answer is the padded square, or the store is full
pub record CornersJoined (v w : Store) (g h : Hold) (b k : ℕ) (o : Result ℕ NoRoom) : Type 0 where
  pub good : Good w
  pub still : Still g.from v w
  pub from : h.from ≡ g.from
  pub done : h.done ≡ g.done
  pub ends : h.from + h.len ≡ w.top
  pub is : Answers (suc b) (suc (suc b)) k (padded false (suc (suc (suc b)))) v w o
