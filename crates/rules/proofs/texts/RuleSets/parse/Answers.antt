use Rattle.std.proofs.Common.{◌≡◌, rules}
use Rattle.rules.specs.Texts.{sets_of}
use Rattle.rules.proofs.Reading.{sets_right}
use Rattle.rules.proofs.texts.RuleSets.parse.Goals as goal

pub returns-in_err-strip_prefix-2-clause-text : goal.returns-in_err-strip_prefix-2-clause-text
returns-in_err-strip_prefix-2-clause-text c =
    let e : c.from_residual-in_err-strip_prefix-2.result ≡ sets_of c.args.text.now = search rules in sets_right _ _ e

pub returns-clause-text : goal.returns-clause-text
returns-clause-text c = let e : c.then_some.result ≡ sets_of c.args.text.now = search rules in sets_right _ _ e
