-- Squares that are gathered one after another, and held.
use Rattle.std.specs.Prelude.{◌≡◌, ℕ, ◌+◌, ◌<◌, Bool}
use Rattle.model.specs.Squares.{Square}
use Rattle.slots.specs.declared.Store.{Store}
use Rattle.slots.specs.Stores.{Good, Has, Still}
use Rattle.holds.specs.declared.Hold.{Hold}
use Rattle.holds.specs.Holding.{held, Keeping}

-- the first n parts, of depth d, of the square of depth e that hold k keeps are held by h, which is the last hold
pub record Gathered (s : Store) (h : Hold) (k e d n : ℕ) (f : ℕ → Square Bool → Square Bool) : Type 0 where
  pub root : k < h.from
  pub has : Has s e (held s k)
  pub ends : h.from + n ≡ s.top
  pub len : h.len ≡ n
  pub each : (q : Square Bool) → Keeping s k e q → (j : ℕ) → j < n → Keeping s (h.from + j) d (f j q)

-- on the way from the store v and the hold g: n squares are held by h, and the holds below it are as they were
pub record Underway (v w : Store) (g h : Hold) (k e d n : ℕ) (f : ℕ → Square Bool → Square Bool) : Type 0 where
  pub good : Good w
  pub parts : Gathered w h k e d n f
  pub still : Still g.from v w
  pub from : h.from ≡ g.from
  pub done : h.done ≡ g.done
