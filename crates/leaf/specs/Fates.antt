-- Words of a rule.
use Rattle.std.specs.Prelude.{◌≡◌, ℕ, ◌-◌, ◌^◌, ◌≤◌, Bool, true, false, cond, Some, slice_get}
use Rattle.model.specs.Rules.{Rule as Law, rule_of, becomes}
use Rattle.leaf.specs.declared.Fate.{Fate}
use Rattle.leaf.specs.declared.Fates.{Fates}
use Rattle.leaf.specs.declared.Way.{Way}
use Rattle.leaf.specs.declared.Way.TheVariants.{Life, ByFates}

-- all bits or none
abbrev pub full : Bool → ℕ
full b = cond b (2 ^ 64 - 1) 0

abbrev pub fate_of : Law → ℕ → Fate
fate_of r n = record { dead = full (becomes r false n); alive = full (becomes r true n) }

pub record Fated (r : Law) (f : Fates) : Type 0 where
  pub at : (n : ℕ) → n ≤ 8 → slice_get f.each n ≡ Some (fate_of r n)

-- b3s23
abbrev pub life_law : Law
life_law = rule_of 8 12

abbrev pub Suits : Law → Way → Type 0
Suits r Life = r ≡ life_law
Suits r (ByFates f) = Fated r f
