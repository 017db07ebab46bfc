-- Answers as text.
use Rattle.std.specs.Prelude.{◌≡◌, ℕ, ◌+◌, ◌≤◌, List, ◌∷◌, ◌++◌, map, length, take, ℤ, Some, None, Ok, Err, codes, decimal, Option, Result}
use Rattle.std.specs.Fmt.{signed_decimal}
use Rattle.model.specs.declared.Bounds.{Bounds}
use Rattle.model.specs.declared.Period.{Period}
use Rattle.model.specs.declared.Refusal.{Refusal}
use Rattle.model.specs.Answers.{number_of}

abbrev pub refused : Refusal → List ℕ
refused e = codes "no " ++ decimal (number_of e)

abbrev pub outcome : Result Unit Refusal → List ℕ
outcome (Ok u) = codes "done"
outcome (Err e) = refused e

-- one number more, after a space
abbrev pub also : ℤ → List ℕ
also z = 32 ∷ signed_decimal z

abbrev pub box_text : Option Bounds → List ℕ
box_text None = codes "box none"
box_text (Some b) = codes "box" ++ (also b.left ++ (also b.top ++ (also b.right ++ also b.bottom)))

abbrev pub return_text : Period → List ℕ
return_text p = codes "period " ++ (decimal p.t ++ (also p.dx ++ also p.dy))

abbrev pub period_text : Result (Option Period) Refusal → List ℕ
period_text (Ok None) = codes "period none"
period_text (Ok (Some p)) = return_text p
period_text (Err e) = refused e

-- cells that are given as 0 and 1, as the characters for them
abbrev pub drawn : List ℕ → List ℕ
drawn = map (λ (b : ℕ). b + 48)

-- the first n bytes of the buffer are bs
pub record Holds (out : List ℕ) (n : ℕ) (bs : List ℕ) : Type 0 where
  pub within : n ≤ length out
  pub is : take n out ≡ bs
