-- Squares that are held. Holds lie on one another: the last one is let go first.
use Rattle.std.specs.Prelude.{◌≡◌, Bool, ℕ, ◌+◌, ◌<◌}
use Rattle.model.specs.Squares.{Square}
use Rattle.nodes.specs.Memory.{held_in}
use Rattle.slots.specs.declared.Store.{Store}
use Rattle.slots.specs.Stores.{mem, Is, Still, Grows}
use Rattle.holds.specs.declared.Hold.{Hold}

-- the number that hold k keeps
abbrev pub held : Store → ℕ → ℕ
held s k = held_in s.at (mem s) k

-- one hold more, of the number i
pub record Pushed (v w : Store) (i : ℕ) : Type 0 where
  pub still : Still v.top v w
  pub grows : Grows v w
  pub top : w.top ≡ v.top + 1
  pub last : held w v.top ≡ i

-- only the first t holds are left, and nothing else was changed
pub record Popped (t : ℕ) (v w : Store) : Type 0 where
  pub words : mem w ≡ mem v
  pub still : Still t v w
  pub grows : Grows v w
  pub top : w.top ≡ t

-- the holds from h's first on are h's
pub record Last (s : Store) (h : Hold) : Type 0 where
  pub ends : h.from + h.len ≡ s.top

-- hold k keeps the square q of depth d
pub record Keeping (s : Store) (k d : ℕ) (q : Square Bool) : Type 0 where
  pub below : k < s.top
  pub is : Is s d (held s k) q
