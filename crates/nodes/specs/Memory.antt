-- The table in words: first the holds, a number each, then the slots, seven words each: tag, upper and lower half, two notes, and the count of living cells in two words.
use Rattle.std.specs.Prelude.{◌≡◌, Bool, List, ℕ, suc, ◌+◌, ◌*◌, ◌/◌, ◌%◌, ◌^◌, ◌<◌, ◌≤◌, length, get_or}
use Rattle.model.specs.Planes.{always}
use Rattle.model.specs.Rules.{Rule as Law, rule_of, life}
use Rattle.model.specs.Squares.{Square, living, leap_by}
use Rattle.nodes.specs.Nodes.{Table, Valid, IsAt, Sound, square_of, used, limit}

abbrev pub hold_room : ℕ
hold_room = 2048

-- the first word of the slots of a store whose words begin at a
abbrev pub base : ℕ → ℕ
base a = a + hold_room

-- word f of slot i
abbrev pub word : ℕ → List ℕ → ℕ → ℕ → ℕ
word a m i f = get_or m (base a + 7 * i + f) 0

-- the state, and 128 more while a collection has the slot marked
abbrev pub tag : ℕ → List ℕ → ℕ → ℕ
tag a m i = word a m i 0

abbrev pub Marked : ℕ → List ℕ → ℕ → Type 0
Marked a m i = 128 ≤ tag a m i

unfoldable pub view : ℕ → List ℕ → Table
view a m i = record { state = tag a m i % 128; upper = word a m i 1; lower = word a m i 2 }

abbrev pub count_in : ℕ → List ℕ → ℕ → ℕ
count_in a m i = word a m i 5 + 2 ^ 64 * word a m i 6

-- the number that hold k keeps
abbrev pub held_in : ℕ → List ℕ → ℕ → ℕ
held_in a m k = get_or m (a + k) 0

-- A note in a word: 0 for none; else its kind, the number of the square that is noted, and the stamp of the rule for which it holds.
abbrev pub kind_of : ℕ → ℕ
kind_of w = w % 128

abbrev pub target_of : ℕ → ℕ
target_of w = w / 128 % 2 ^ 26

abbrev pub stamp_of : ℕ → ℕ
stamp_of w = w / 2 ^ 33

-- the rule with this stamp
abbrev pub stamped : ℕ → Law
stamped s = rule_of (s % 512) (s / 512)

-- the leap of a square of depth p + 1 by 2^e generations
abbrev pub leap_of : Law → (e p : ℕ) → Square Bool → Square Bool
leap_of r e p s = leap_by (always (life r)) e (suc (suc p)) s

-- what the note w of slot i, a square of depth p + 1, says: a note of kind e + 1 is the leap by 2^e generations
pub record NoteRight (n : ℕ) (v : Table) (p i w : ℕ) : Type 0 where
  pub right : (e : ℕ) → kind_of w ≡ suc e → e ≤ suc (suc p) → IsAt n v p (target_of w) (leap_of (stamped (stamp_of w)) e p (square_of v (suc p) i))

-- a store of n slots whose words begin at a, with t holds, lies in the memory m
pub record LaidAt (a n t : ℕ) (m : List ℕ) : Type 0 where
  pub fits : base a + 7 * n ≤ length m
  pub some : 0 < n
  pub few : n < 2 ^ 26
  pub room : t ≤ hold_room

-- The store of n slots whose words begin at a, with t holds and room for l squares more, is good in the memory m.
pub record GoodAt (a n t l : ℕ) (m : List ℕ) : Type 0 where
  pub laid : LaidAt a n t m
  pub sound : Sound n (view a m)
  pub clear : (i : ℕ) → i < n → tag a m i < 128
  pub counted : (i d : ℕ) → Valid n (view a m) d i → count_in a m i ≡ living (square_of (view a m) d i)
  pub notes : (i p f : ℕ) → Valid n (view a m) (suc p) i → 3 ≤ f → f ≤ 4 → NoteRight n (view a m) p i (word a m i f)
  pub held : (k : ℕ) → k < t → (held_in a m k < n) × (2 ≤ (view a m (held_in a m k)).state)
  pub left : used (view a m) n + l ≡ limit n

-- the words before k are as they were
pub record FrontAt (k : ℕ) (m w : List ℕ) : Type 0 where
  pub long : length w ≡ length m
  pub front : (i : ℕ) → i < k → get_or w i 0 ≡ get_or m i 0

-- every number stands for what it stood for
pub record GrowsAt (a n : ℕ) (m w : List ℕ) : Type 0 where
  pub all : (d i : ℕ) (s : Square Bool) → IsAt n (view a m) d i s → IsAt n (view a w) d i s

-- the first t holds are as they were, and their numbers stand for what they stood for
pub record KeepsAt (a n t : ℕ) (m w : List ℕ) : Type 0 where
  pub front : FrontAt (a + t) m w
  pub still : (k d : ℕ) (s : Square Bool) → k < t → IsAt n (view a m) d (held_in a m k) s → IsAt n (view a w) d (held_in a m k) s
