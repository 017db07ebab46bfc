-- What a slot's state is, by its number.
use mathlib.Core.Path.{◌≡◌, refl}
use Prim.Native.Nat.{ℕ, ◌≤◌}
use native.Mathlib.Omega.{arith}
use Rattle.slots.specs.declared.words.State.{State}
use Rattle.slots.specs.declared.words.State.TheVariants.{Empty, Free, Square}
use Rattle.slots.specs.Slots.{number_of}

pub is_square : (s : State) → 2 ≤ number_of s → ((d : ℕ) → s ≡ Square d → ⊥) → ⊥
is_square Empty h n = absurd (omega arith)
is_square Free h n = absurd (omega arith)
is_square (Square d) h n = n d refl
