use Rattle.std.proofs.Common.{rules, refl, ◌≡◌, ◌≢◌, ◌-◌, ℕ, ap, sym, ◌∙◌, arith}
use Rattle.std.proofs.lemmas.Iterator.{cases_from_all, YieldsList-from_range}
use Rattle.lent.specs.Lists.{words_of, stretch_of}
use Rattle.lent.specs.Stretches.{entry}
use Rattle.measure.specs.Shifts.{shift_of}
use Rattle.measure.proofs.Moving.{none_length, some_empty, answered, seen_same, seen_other}
use Rattle.lent.proofs.Lists.{never}
use Rattle.measure.proofs.find_shift.Goals as goal

pub returns-then-len : goal.returns-then-len
returns-then-len c = none_length (words_of c.args.a) (words_of c.args.b) (stretch_of c.args.a) (stretch_of c.args.b) (λ e. c.if-len.true (c.len.ensures ∙ e ∙ sym c.len-2.ensures))

pub returns-then-is_empty : goal.returns-then-is_empty
returns-then-is_empty c =
    some_empty (words_of c.args.a) (words_of c.args.b) (stretch_of c.args.a) (stretch_of c.args.b)
    (c.if-is_empty.ensures.0 refl) (sym c.len-2.ensures ∙ sym c.if-len.false ∙ c.len.ensures ∙ c.if-is_empty.ensures.0 refl)

pub returns : goal.returns
returns c =
    let empty = never c.if-is_empty.ensures.1 in let d = c.shift_between-shift.result in
    let m = words_of c.args.a in let m' = words_of c.args.b in let a = stretch_of c.args.a in let b = stretch_of c.args.b in
    let apart = λ (i : ℕ). shift_of (entry m a.at i) (entry m' b.at i) in
    answered m m' a b d c.all.result c.then_some.result (sym c.len.ensures ∙ c.if-len.false ∙ c.len-2.ensures) (omega (arith, empty))
    (sym (c.shift_between-shift.ensures ∙ (λ i. shift_of (c.cell.ensures.value i) (c.cell-2.ensures.value i))))
    c.then_some.ensures
    (cases_from_all _ _ c.all.result (λ i. apart i ≡ d) (λ i. apart i ≢ d) c.all.ensures.ran (YieldsList-from_range 1 c.len-3.result (a.len - 1) refl (ap (λ (n : ℕ). n - 1) c.len-3.ensures))
    (λ x q k. (search rules, search (rules, seen_same))) (λ x q k. search (rules, seen_other)))
