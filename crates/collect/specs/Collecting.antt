-- A collection on its way.
use Rattle.std.specs.Prelude.{◌≡◌, Bool, List, ℕ, suc, ◌<◌, ◌≤◌}
use Rattle.model.specs.Squares.{Square, living}
use Rattle.model.specs.declared.quarters.Quarters.{Quarters}
use Rattle.nodes.specs.Nodes.{Valid, Sound, square_of, used, limit}
use Rattle.nodes.specs.Memory.{word, view, Marked, count_in, held_in, NoteRight, LaidAt}
use Rattle.nodes.specs.Marking.{ClosedAt}
use Rattle.slots.specs.declared.Store.{Store}
use Rattle.slots.specs.Stores.{mem, Has, Is}

-- a good store, but that some squares are marked
pub record MarkingAt (a n t : ℕ) (m : List ℕ) : Type 0 where
  pub laid : LaidAt a n t m
  pub sound : Sound n (view a m)
  pub closed : ClosedAt a n m
  pub counted : (i d : ℕ) → Valid n (view a m) d i → count_in a m i ≡ living (square_of (view a m) d i)
  pub notes : (i p f : ℕ) → Valid n (view a m) (suc p) i → 3 ≤ f → f ≤ 4 → NoteRight n (view a m) p i (word a m i f)
  pub held : (k : ℕ) → k < t → (held_in a m k < n) × (2 ≤ (view a m (held_in a m k)).state)
  pub few : used (view a m) n ≤ limit n

abbrev pub Marking : Store → Type 0
Marking s = MarkingAt s.at s.slots s.top (mem s)

-- marked numbers stand for what they stood for
pub record Spared (v w : Store) : Type 0 where
  pub spared : (d i : ℕ) (q : Square Bool) → Is v d i q → Marked v.at (mem v) i → Is w d i q

-- four squares of depth d
pub record FourOf (s : Store) (d : ℕ) (q : Quarters ℕ) : Type 0 where
  pub has_nw : Has s d q.nw
  pub has_ne : Has s d q.ne
  pub has_sw : Has s d q.sw
  pub has_se : Has s d q.se

-- the number stands for what it stood for
abbrev pub Means : Store → Store → (d i : ℕ) → Type 0
Means v w d i = (q : Square Bool) → Is v d i q → Is w d i q

pub record FourKept (v w : Store) (d : ℕ) (q : Quarters ℕ) : Type 0 where
  pub means_nw : Means v w d q.nw
  pub means_ne : Means v w d q.ne
  pub means_sw : Means v w d q.sw
  pub means_se : Means v w d q.se
