-- Parts that are gathered one after another.
use Rattle.std.specs.Prelude.{◌≡◌, ℕ, suc, ◌+◌, ◌*◌, ◌<◌, ◌≤◌, Bool, Ok, Err, Result}
use Rattle.rules.specs.Laws.{law}
use Rattle.nodes.specs.Nodes.{Full}
use Rattle.nodes.specs.Memory.{hold_room}
use Rattle.notes.specs.declared.Leap.{Leap}
use Rattle.notes.specs.Noting.{leap_to}
use Rattle.pieces.specs.Nine.{Answers}
use Rattle.pieces.specs.Gathering.{Gathered}
use Rattle.slots.specs.declared.Store.{Store}
use Rattle.slots.specs.Stores.{Good, Has, Still, table}
use Rattle.holds.specs.declared.Hold.{Hold}
use Rattle.holds.specs.Holding.{held, Keeping}
use Rattle.model.specs.Squares.{Square}
use Rattle.store.specs.declared.Full.{Full as NoRoom}
use Rattle.advance.specs.Advancing.{inner, part_of, ninth_leap}
use Rattle.advance.specs.declared.Larger.{Larger}

-- the whole leap, the i-th of its thirteen parts, and the leap of the i-th of the nine
abbrev pub whole : Larger → Square Bool → Square Bool
whole a = leap_to a.leap (suc a.below)

abbrev pub part : Larger → ℕ → Square Bool → Square Bool
part a = part_of (law a.leap.rule) a.leap.exponent a.below

abbrev pub nine : Larger → ℕ → Square Bool → Square Bool
nine a = ninth_leap (law a.leap.rule) a.leap.exponent a.below

-- the leap by which each of the nine goes
abbrev pub inner_of : Larger → Leap
inner_of a = record { rule = a.leap.rule; exponent = inner a.leap.exponent a.below }

-- the first n parts are held by h
pub record Ready (s : Store) (h : Hold) (a : Larger) (n : ℕ) : Type 0 where
  pub good : Good s
  pub power : a.leap.exponent ≤ a.below + 3
  pub deep : a.below ≤ 59
  pub room : s.top + 14 * a.below + 14 ≤ hold_room + n
  pub parts : Gathered s h a.place (suc (suc a.below)) a.below n (part a)

abbrev pub Ended : Store → Hold → Larger → Result Unit NoRoom → Type 0
Ended s h a (Ok _) = Gathered s h a.place (suc (suc a.below)) a.below 13 (part a)
Ended s h a (Err _) = Full s.slots (table s)

-- the holds below h are as they were, and either all thirteen are held or the store is full
pub record Gathering (v w : Store) (g h : Hold) (a : Larger) (o : Result Unit NoRoom) : Type 0 where
  pub good : Good w
  pub still : Still g.from v w
  pub from : h.from ≡ g.from
  pub done : h.done ≡ g.done
  pub ends : h.from + h.len ≡ w.top
  pub all : Ended w h a o

-- the holds below h are as they were, and the answer is the whole leap, or the store is full
pub record Joined (v w : Store) (g h : Hold) (a : Larger) (o : Result ℕ NoRoom) : Type 0 where
  pub good : Good w
  pub still : Still g.from v w
  pub from : h.from ≡ g.from
  pub done : h.done ≡ g.done
  pub ends : h.from + h.len ≡ w.top
  pub is : Answers (suc (suc a.below)) (suc a.below) a.place (whole a) v w o

-- the square is held, and there is room to work out a part
pub record Rooted (s : Store) (a : Larger) : Type 0 where
  pub good : Good s
  pub power : a.leap.exponent ≤ a.below + 3
  pub deep : a.below ≤ 59
  pub room : s.top + 14 * a.below + 1 ≤ hold_room
  pub below : a.place < s.top
  pub has : Has s (suc (suc a.below)) (held s a.place)

-- and the leaps of the nine are held by h
pub record Nined (s : Store) (h : Hold) (a : Larger) : Type 0 where
  pub rooted : Rooted s a
  pub many : 9 ≤ h.len
  pub ends : h.from + h.len ≤ s.top
  pub each : (q : Square Bool) → Keeping s a.place (suc (suc a.below)) q → (j : ℕ) → j < 9 → Keeping s (h.from + j) a.below (nine a j q)

-- a square of depth p + 1 that need not be held, and room to hold it and to leap
pub record Loose (s : Store) (l : Leap) (p i : ℕ) : Type 0 where
  pub good : Good s
  pub has : Has s (suc p) i
  pub power : l.exponent ≤ p + 2
  pub deep : p ≤ 60
  pub room : s.top + 14 * p + 1 ≤ hold_room
