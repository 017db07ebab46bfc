-- What a square is made of.
use Rattle.std.specs.Prelude.{Bool, ℕ}
use Rattle.model.specs.Squares.{Square, nw, ne, sw, se}
use Rattle.model.specs.declared.quarters.Quarters.{Quarters}
use Rattle.slots.specs.declared.Store.{Store}
use Rattle.slots.specs.Stores.{Is}

-- the numbers of the quarters of the square q, which are of depth d
pub record QuartersOf (s : Store) (d : ℕ) (q : Square Bool) (r : Quarters ℕ) : Type 0 where
  pub is_nw : Is s d r.nw (nw q)
  pub is_ne : Is s d r.ne (ne q)
  pub is_sw : Is s d r.sw (sw q)
  pub is_se : Is s d r.se (se q)
