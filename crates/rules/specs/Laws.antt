-- The rule of the model that the two numbers of a rule stand for.
use Rattle.std.specs.Prelude.{◌≡◌, ℕ, not, T, Ok, Err, Result}
use Rattle.model.specs.declared.Refusal.{Refusal}
use Rattle.model.specs.declared.Refusal.TheVariants.{BadRule}
use Rattle.model.specs.Rules.{Rule as Law, rule_of, good_rule}
use Rattle.rules.specs.declared.bits.Rule.{Rule}

abbrev pub law : Rule → Law
law r = rule_of r.born r.stays

-- the rule of two numbers, or a refusal where they make none
abbrev pub IsRuled : (b s : ℕ) → Result Rule Refusal → Type 0
IsRuled b s (Ok r) = (r.born ≡ b) × (r.stays ≡ s)
IsRuled b s (Err e) = (e ≡ BadRule) × T (not (good_rule (rule_of b s)))
