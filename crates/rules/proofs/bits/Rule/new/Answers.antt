use Rattle.std.proofs.Common.{◌≡◌, true, false, T, sym, refl, subst, ◌∙◌, arith}
use Rattle.std.proofs.lemmas.Bool.Decides.{nat_tests}
use Rattle.model.specs.Rules.{good_rule, rule_of}
use Rattle.rules.proofs.Flags.{good_is}
use Rattle.rules.proofs.bits.Rule.new.Goals as goal
use Rattle.rules.proofs.bits.Rule.new.Goals.{else-born-lt512-via-then-born-lt512+then-stays-lt512+else-born-eq0, else-born-lt512-via-then-born-lt512+else-stays-lt512, else-born-lt512-via-else-born-lt512}

pub invariant_of-result : goal.invariant_of-result
invariant_of-result c =
    let good : good_rule (rule_of c.args.born c.args.stays) ≡ true =
    good_is c.args.born c.args.stays ∙ grind (arith, nat_tests) in
    record { good = subst T (sym good) tt }

bad : (c : goal.Joined-else-born-lt512) → good_rule (rule_of c.args.born c.args.stays) ≡ false
bad c =
    good_is c.args.born c.args.stays ∙
    elim c.else-born-lt512.branch [
      | else-born-lt512-via-then-born-lt512+then-stays-lt512+else-born-eq0 w ↦ grind (arith, nat_tests)
      | else-born-lt512-via-then-born-lt512+else-stays-lt512 w ↦ grind (arith, nat_tests)
      | else-born-lt512-via-else-born-lt512 w ↦ grind (arith, nat_tests)
    ]

pub returns-else-born-lt512 : goal.returns-else-born-lt512
returns-else-born-lt512 c = (refl, rw (bad c) tt)
