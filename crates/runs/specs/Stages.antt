-- Runs and periods on lists: one stretch keeps the plane, of two others one is read while the other is written.
use Rattle.std.specs.Prelude.{◌≡◌, ℕ, ◌*◌, ◌<◌, ◌≤◌, T, ◌⊎◌, List, length, Ok, Err, Result}
use Rattle.model.specs.declared.Refusal.{Refusal}
use Rattle.model.specs.declared.Refusal.TheVariants.{NoRoom}
use Rattle.model.specs.Rules.{Rule}
use Rattle.model.specs.World.{World, world_of, fits, most_cells}
use Rattle.model.specs.Lists.{next_of, nexts}
use Rattle.model.specs.Answers.{Stopped}
use Rattle.lent.specs.declared.Stretch.{Stretch}
use Rattle.lent.specs.Stretches.{cells_in, room_words, Listed}

-- one of the three places for lists
abbrev pub Placed : ℕ → Type 0
Placed at = (at ≡ 0) ⊎ ((at ≡ room_words) ⊎ (at ≡ 2 * room_words))

-- a list in one of these places that is no longer than what is always held
pub record Staged (m : List ℕ) (s : Stretch) : Type 0 where
  pub listed : Listed m s
  pub placed : Placed s.at
  pub few : s.len ≤ most_cells
  pub room : 3 * room_words ≤ length m

abbrev pub world_in : Rule → List ℕ → Stretch → World
world_in r m s = world_of r (cells_in m s)

-- the plane at home is as it was
pub record Kept (m m' : List ℕ) (home : Stretch) : Type 0 where
  pub long : length m' ≡ length m
  pub staged : Staged m' home
  pub same : cells_in m' home ≡ cells_in m home

-- after one generation of the list `last`: where the next one is, or that it has too many cells
abbrev pub Stepped : Rule → List ℕ → List ℕ → Stretch → Result Stretch Refusal → Type 0
Stepped r m m' last (Ok s) = Staged m' s × (cells_in m' s ≡ next_of r (cells_in m last))
Stepped r m m' last (Err e) = (e ≡ NoRoom) × (most_cells < length (next_of r (cells_in m last)))

-- after a run: where the plane is now, or why there is none
abbrev pub ListRan : Rule → ℕ → List ℕ → List ℕ → Stretch → Result Stretch Refusal → Type 0
ListRan r n m m' home (Ok s) = T (fits n (world_in r m home)) × Staged m' s × (cells_in m' s ≡ nexts r n (cells_in m home))
ListRan r n m m' home (Err e) = Stopped n (world_in r m home) e
