-- A store whose plain numbers are as they were.
use mathlib.Core.Path.{refl, ◌∙◌}
use native.Mathlib.Omega.{arith}
use Rattle.slots.specs.declared.Store.{Store}
use Rattle.slots.specs.Stores.{Fixed, Laid}

pub fixed_refl : (v : Store) → Fixed v v
fixed_refl v = record { at = refl; slots = refl; top = refl; left = refl; long = refl }

pub fixed_trans : {u v w : Store} → Fixed u v → Fixed v w → Fixed u w
fixed_trans p q = record { at = q.at ∙ p.at; slots = q.slots ∙ p.slots; top = q.top ∙ p.top; left = q.left ∙ p.left; long = q.long ∙ p.long }

pub laid_fixed : {v w : Store} → Fixed v w → Laid v → Laid w
laid_fixed e p = record { fits = omega arith; some = omega arith; few = omega arith; room = omega arith }
