-- What there is for each of the four quarters of a square.
use Rattle.std.specs.Prelude.{ℕ, zero, suc, List, [], ◌∷◌}
use Rattle.model.specs.declared.quarters.Quarters.{Quarters}

-- the one in this row and column, 0 or 1 each
abbrev pub quarter_in : {A : Type 0} → Quarters A → (row column : ℕ) → A
quarter_in q zero zero = q.nw
quarter_in q zero (suc c) = q.ne
quarter_in q (suc r) zero = q.sw
quarter_in q (suc r) (suc c) = q.se

-- the same with another in this row and column
abbrev pub with_quarter : {A : Type 0} → Quarters A → (row column : ℕ) → A → Quarters A
with_quarter q zero zero a = record q { nw = a }
with_quarter q zero (suc c) a = record q { ne = a }
with_quarter q (suc r) zero a = record q { sw = a }
with_quarter q (suc r) (suc c) a = record q { se = a }

-- all four, in the order of reading
abbrev pub each_of : {A : Type 0} → Quarters A → List A
each_of q = q.nw ∷ q.ne ∷ q.sw ∷ q.se ∷ []
