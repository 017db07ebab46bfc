use Rattle.std.proofs.Common.{T, subst}
use Rattle.model.specs.Rules.{Rule as Law, good_rule}
use Rattle.rules.specs.Laws.{law}
use Rattle.squaretext.specs.declared.Fault.{Fault}
use Rattle.squaretext.specs.Asked.{SquareText}
use Rattle.squaretext.proofs.Asking.{names, made, ruled, middle_is}
use Rattle.squaretext.proofs.answer.Goals as goal

pub returns : goal.returns
returns c =
    let bs = c.args.input.now in let e = c.split_line.ensures in let s = c.in_ok-sets.sets in let r = c.in_ok-rule.rule in
    let m = made Fault c.new.result r _ c.in_ok-rule.ensures.cases (λ z q. q) in let l = ruled s.born s.stays c.new.result r m c.new.ensures in (
      _,
      _,
      names bs _ s c.parse.result e.line c.in_ok-sets.ensures.ok_part c.parse.ensures.text,
      subst (λ (x : Law). T (good_rule x)) l r.good,
      subst SquareText e.rest (c.is_square.ensures.0 c.if-not-is_square.false),
      middle_is _ _ (law r) _ c.word_at.result c.word_at-2.result c.word_at-3.result c.word_at-4.result _ e.rest l
          c.word_at.ensures c.word_at-2.ensures c.word_at-3.ensures c.word_at-4.ensures c.leap16.ensures.plane,
    )
