-- What each call may answer, and the plane that it leaves: w is the plane before the call, w' the one after it.
use Rattle.std.specs.Prelude.{◌≡◌, ℕ, Bool, cond, not, T, ℤ, Ok, Err, Option, Result}
use Rattle.model.specs.declared.Period.{Period}
use Rattle.model.specs.declared.Refusal.{Refusal}
use Rattle.model.specs.declared.Refusal.TheVariants.{BadRule, TooFar, Leaves, NoRoom, BadMemory, BadForm, OtherRule}
use Rattle.model.specs.Rules.{good_rule, rule_of}
use Rattle.model.specs.World.{World, with_rule, with_cell, after, far, fits, Crowded, period}

abbrev pub number_of : Refusal → ℕ
number_of BadRule = 1
number_of TooFar = 2
number_of Leaves = 3
number_of NoRoom = 5
number_of BadMemory = 6
number_of BadForm = 7
number_of OtherRule = 8

-- 0 for a call that was done
abbrev pub code : {A : Type 0} → Result A Refusal → ℕ
code (Ok a) = 0
code (Err e) = number_of e

-- done if the test holds, else that refusal
abbrev pub accepted : Bool → Refusal → Result Unit Refusal
accepted b e = cond b (Ok tt) (Err e)

-- rule: refused exactly where the numbers are no rule
abbrev pub Ruled : ℕ → ℕ → World → Result Unit Refusal → World → Type 0
Ruled b s w r w' = (r ≡ accepted (good_rule (rule_of b s)) BadRule) × (w' ≡ cond (good_rule (rule_of b s)) (with_rule (rule_of b s) w) w)

-- put: a far cell is refused first, then want of room
abbrev pub Put : ℤ → ℤ → Bool → World → Result Unit Refusal → World → Type 0
Put x y b w (Ok u) w' = T (not (far x y)) × (w' ≡ with_cell x y b w)
Put x y b w (Err TooFar) w' = T (far x y) × (w' ≡ w)
Put x y b w (Err NoRoom) w' = T (not (far x y)) × Crowded 0 (with_cell x y b w) × (w' ≡ w)
Put x y b w (Err BadRule) w' = ⊥
Put x y b w (Err Leaves) w' = ⊥
Put x y b w (Err BadMemory) w' = ⊥
Put x y b w (Err BadForm) w' = ⊥
Put x y b w (Err OtherRule) w' = ⊥

-- why a call that looks n generations ahead is refused: a cell could leave, else want of room
abbrev pub Stopped : ℕ → World → Refusal → Type 0
Stopped n w Leaves = T (not (fits n w))
Stopped n w NoRoom = T (fits n w) × Crowded n w
Stopped n w BadRule = ⊥
Stopped n w TooFar = ⊥
Stopped n w BadMemory = ⊥
Stopped n w BadForm = ⊥
Stopped n w OtherRule = ⊥

-- run
abbrev pub Ran : ℕ → World → Result Unit Refusal → World → Type 0
Ran n w (Ok u) w' = T (fits n w) × (w' ≡ after n w)
Ran n w (Err e) w' = Stopped n w e × (w' ≡ w)

-- period: the plane stays in any case
abbrev pub Recurs : ℕ → World → Result (Option Period) Refusal → Type 0
Recurs n w (Ok p) = T (fits n w) × (p ≡ period n w)
Recurs n w (Err e) = Stopped n w e
