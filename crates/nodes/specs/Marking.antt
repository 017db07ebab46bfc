-- A store in the middle of a collection: squares that are needed are marked, then all others are forgotten.
use Rattle.std.specs.Prelude.{◌≡◌, Bool, List, ℕ, suc, ◌<◌, ◌≤◌}
use Rattle.model.specs.Squares.{Square, living}
use Rattle.nodes.specs.declared.Node.{Node}
use Rattle.nodes.specs.Nodes.{first, second, Valid, IsAt, Sound, square_of, used, limit}
use Rattle.nodes.specs.Memory.{base, word, view, Marked, count_in, held_in, NoteRight, LaidAt, FrontAt}

pub record KidsMarked (a : ℕ) (m : List ℕ) (x : Node) : Type 0 where
  pub mnw : Marked a m (first x.upper)
  pub mne : Marked a m (second x.upper)
  pub msw : Marked a m (first x.lower)
  pub mse : Marked a m (second x.lower)

-- only squares are marked, and the quarters of a marked square are
pub record ClosedAt (a n : ℕ) (m : List ℕ) : Type 0 where
  pub only : (i : ℕ) → i < n → Marked a m i → 2 ≤ (view a m i).state
  pub parts : (i d : ℕ) → Valid n (view a m) (suc d) i → Marked a m i → KidsMarked a m (view a m i)

-- marks were set, and nothing else was changed
pub record MarksAt (a : ℕ) (m w : List ℕ) : Type 0 where
  pub front : FrontAt (base a) m w
  pub shown : view a w ≡ view a m
  pub rest : (i f : ℕ) → 0 < f → f < 7 → word a w i f ≡ word a m i f
  pub more : (i : ℕ) → Marked a m i → Marked a w i

-- all that is needed is marked: a good store but for the marks
pub record MarkedAt (a n t : ℕ) (m : List ℕ) : Type 0 where
  pub laid : LaidAt a n t m
  pub sound : Sound n (view a m)
  pub closed : ClosedAt a n m
  pub counted : (i d : ℕ) → Valid n (view a m) d i → count_in a m i ≡ living (square_of (view a m) d i)
  pub notes : (i p f : ℕ) → Valid n (view a m) (suc p) i → 3 ≤ f → f ≤ 4 → NoteRight n (view a m) p i (word a m i f)
  pub held : (k : ℕ) → k < t → (held_in a m k < n) × Marked a m (held_in a m k)
  pub few : used (view a m) n ≤ limit n

-- what was marked stands for what it stood for
pub record StaysAt (a n : ℕ) (m w : List ℕ) : Type 0 where
  pub front : FrontAt (base a) m w
  pub still : (d i : ℕ) (s : Square Bool) → IsAt n (view a m) d i s → Marked a m i → IsAt n (view a w) d i s
