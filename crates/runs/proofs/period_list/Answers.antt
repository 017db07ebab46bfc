use Rattle.std.proofs.Common.{◌≡◌, ◌+◌, ◌-◌, ℕ, Option, Some, Result, Err, refl, sym, ap, ◌∙◌, subst, arith, w64, rules}
use mir.Val.{SFits}
use mir.ValLaws.{to_z-of_z}
use Rattle.model.specs.declared.Period.{Period}
use Rattle.model.specs.declared.Refusal.{Refusal}
use Rattle.model.specs.Answers.{Recurs}
use Rattle.model.specs.World.{returned}
use Rattle.model.proofs.Periods.{same_cells_lem}
use Rattle.lent.specs.Mem.{mem}
use Rattle.lent.specs.Stretches.{cells_in}
use Rattle.lent.proofs.Lists.{list_cells}
use Rattle.rules.specs.Laws.{law}
use Rattle.generation.proofs.Handed.{handed}
use Rattle.runs.specs.Stages.{world_in}
use Rattle.runs.proofs.Staging.{Running, Searching, told_fit, told_same, kept_trans, running_start, running_next, running_near, running_full, searching_start, searching_found, searching_on, searching_still, searching_end}
use Rattle.runs.proofs.period_list.Goals as goal

pub loop-t-init : goal.loop-t-init
loop-t-init c = (
  refl,
  running_start (law c.args.rule) (mem c.args.words.now) c.args.home c.requires,
  searching_start (law c.args.rule) (cells_in (mem c.args.words.now) c.args.home) c.args.bound,
)

pub next_stage-requires-clause-near : goal.next_stage-requires-clause-near
next_stage-requires-clause-near c =
    let i = c.loop-t.invariant in let l = c.list.ensures in let fit = told_fit c.if-not-fits.ensures c.from.ensures (list_cells c.list.result l.words l.stretch) in
    let from = c.from-t-end.ensures in let low = c.loop-t.auto.t in let high = c.loop-t-test.true in let t = c.loop-t.t - 1 in
    let r = law c.args.rule in let m = mem c.args.words.now in let m1 = mem c.loop-t.words in let home = c.args.home in let last = c.loop-t.last in let bound = c.args.bound in
    running_near r c.args.rule.good m m1 home last t bound i.1 fit (omega arith)

pub returns-in_err-then-clause-recurs : goal.returns-in_err-then-clause-recurs
returns-in_err-then-clause-recurs c =
    let i = c.loop-t.invariant in let l = c.list.ensures in let fit = told_fit c.if-not-fits.ensures c.from.ensures (list_cells c.list.result l.words l.stretch) in
    let from = c.from-t-end.ensures in let low = c.loop-t.auto.t in let high = c.loop-t-test.true in let t = c.loop-t.t - 1 in
    let r = law c.args.rule in let m = mem c.args.words.now in let m1 = mem c.loop-t.words in let home = c.args.home in let last = c.loop-t.last in let bound = c.args.bound in
    let e = c.in_err-then.ensures in
    subst (λ (o : Result (Option Period) Refusal). Recurs bound (world_in r m home) o) (sym (handed _ _ c.from_residual.ensures.1 ∙ ap Err e.made.0))
    (fit, running_full r m m1 home last t bound i.1 (omega arith) e.made.1)

pub returns-in-Some-clause-recurs : goal.returns-in-Some-clause-recurs
returns-in-Some-clause-recurs c =
    let i = c.loop-t.invariant in let l = c.list.ensures in let fit = told_fit c.if-not-fits.ensures c.from.ensures (list_cells c.list.result l.words l.stretch) in
    let from = c.from-t-end.ensures in let low = c.loop-t.auto.t in let high = c.loop-t-test.true in let t = c.loop-t.t - 1 in
    let r = law c.args.rule in let m = mem c.args.words.now in let m1 = mem c.loop-t.words in let home = c.args.home in let last = c.loop-t.last in let bound = c.args.bound in
    let m2 = mem c.next_stage.new.words in let then = c.in_ok-then.then in let e = c.in_ok-then.ensures in let k = kept_trans i.1.kept e.home in
    let p = c.list-in-loop-t.ensures in let q = c.list-in-loop-t-2.ensures in
    let first = sym k.same ∙ sym (list_cells c.list-in-loop-t.result p.words p.stretch) in let next = sym (list_cells c.list-in-loop-t-2.result q.words q.stretch) in
    let shift = c.in-Some.shift in let fx : SFits w64 shift.dx = search rules in let fy : SFits w64 shift.dy = search rules in
    let ex = to_z-of_z w64 shift.dx fx in let ey = to_z-of_z w64 shift.dy fy in (
      fit,
      (λ j. Some (record { t = c.loop-t.t; dx = ex j; dy = ey j })) ∙
          searching_found r (cells_in m home) (cells_in m1 last) (cells_in m2 then) bound t c.loop-t.t shift i.2 (omega arith) e.made.1 (omega arith)
          (λ u go. (λ j. returned u (first j) (next j) go) ∙ c.in-Some.ensures u go),
    )

pub returns-then-same-clause-recurs : goal.returns-then-same-clause-recurs
returns-then-same-clause-recurs c =
    let i = c.loop-t.invariant in let l = c.list.ensures in let fit = told_fit c.if-not-fits.ensures c.from.ensures (list_cells c.list.result l.words l.stretch) in
    let from = c.from-t-end.ensures in let low = c.loop-t.auto.t in let high = c.loop-t-test.true in let t = c.loop-t.t - 1 in
    let r = law c.args.rule in let m = mem c.args.words.now in let m1 = mem c.loop-t.words in let home = c.args.home in let last = c.loop-t.last in let bound = c.args.bound in
    let m2 = mem c.next_stage.new.words in let then = c.in_ok-then.then in let e = c.in_ok-then.ensures in let k = kept_trans i.1.kept e.home in
    let p = c.list-in-loop-t.ensures in let q = c.list-in-loop-t-2.ensures in
    let first = sym k.same ∙ sym (list_cells c.list-in-loop-t.result p.words p.stretch) in let next = sym (list_cells c.list-in-loop-t-2.result q.words q.stretch) in
    let v = c.list-in-loop-t-3.ensures in let w = c.list-in-loop-t-4.ensures in
    let alike = told_same c.if-same.ensures (list_cells c.list-in-loop-t-3.result v.words v.stretch) (list_cells c.list-in-loop-t-4.result w.words w.stretch) in (
      fit,
      searching_still r (cells_in m home) (cells_in m1 last) (cells_in m2 then) bound t i.2 (omega arith) e.made.1 (sym e.last.same ∙ same_cells_lem _ _ alike)
          (λ u go. (λ j. returned u (first j) (next j) go) ∙ c.in_default.ensures u go),
    )

pub loop-t-preserved : goal.loop-t-preserved
loop-t-preserved c =
    let i = c.loop-t.invariant in
    let from = c.from-t-end.ensures in let low = c.loop-t.auto.t in let high = c.loop-t-test.true in let t = c.loop-t.t - 1 in
    let r = law c.args.rule in let m = mem c.args.words.now in let m1 = mem c.loop-t.words in let home = c.args.home in let last = c.loop-t.last in let bound = c.args.bound in
    let m2 = mem c.next_stage.new.words in let then = c.in_ok-then.then in let e = c.in_ok-then.ensures in let k = kept_trans i.1.kept e.home in
    let p = c.list-in-loop-t.ensures in let q = c.list-in-loop-t-2.ensures in
    let first = sym k.same ∙ sym (list_cells c.list-in-loop-t.result p.words p.stretch) in let next = sym (list_cells c.list-in-loop-t-2.result q.words q.stretch) in
    let same : t + 1 ≡ c.loop-t.t + 1 - 1 = omega arith in (
      e.same ∙ i.0,
      subst (Running r m m2 home then) same (running_next r m m1 m2 home last then t i.1 e.home e.made.0 e.made.1),
      subst (λ (u : ℕ). Searching r (cells_in m home) bound u (cells_in m2 then)) same
          (searching_on r (cells_in m home) (cells_in m1 last) (cells_in m2 then) bound t i.2 (omega arith) e.made.1
          (λ u go. (λ j. returned u (first j) (next j) go) ∙ c.in_default.ensures u go)),
    )

pub returns-else-not-fits-clause-recurs : goal.returns-else-not-fits-clause-recurs
returns-else-not-fits-clause-recurs c =
    let i = c.loop-t.invariant in let l = c.list.ensures in let fit = told_fit c.if-not-fits.ensures c.from.ensures (list_cells c.list.result l.words l.stretch) in
    let r = law c.args.rule in let m = mem c.args.words.now in let m1 = mem c.loop-t.words in let home = c.args.home in let last = c.loop-t.last in let bound = c.args.bound in
    let from = c.from-t-end.ensures in let low = c.loop-t.auto.t in let high = c.loop-t-test.false in
    (fit, searching_end r (cells_in m home) (cells_in m1 last) bound (c.loop-t.t - 1) i.2 (omega arith))

pub returns-else-same-clause-recurs : goal.returns-else-same-clause-recurs
returns-else-same-clause-recurs c =
    let i = c.loop-t.invariant in
    let from = c.from-t-end.ensures in let low = c.loop-t.auto.t in let high = c.loop-t-test.true in let t = c.loop-t.t - 1 in
    let r = law c.args.rule in let m = mem c.args.words.now in let m1 = mem c.loop-t.words in let home = c.args.home in let last = c.loop-t.last in let bound = c.args.bound in
    let m2 = mem c.next_stage.new.words in let then = c.in_ok-then.then in let e = c.in_ok-then.ensures in let k = kept_trans i.1.kept e.home in
    let p = c.list-in-loop-t.ensures in let q = c.list-in-loop-t-2.ensures in
    let first = sym k.same ∙ sym (list_cells c.list-in-loop-t.result p.words p.stretch) in let next = sym (list_cells c.list-in-loop-t-2.result q.words q.stretch) in
    let l = c.list.ensures in let fit = told_fit c.if-not-fits.ensures c.from.ensures (list_cells c.list.result l.words l.stretch) in (
      fit,
      searching_end r (cells_in m home) (cells_in m2 then) bound (t + 1)
          (searching_on r (cells_in m home) (cells_in m1 last) (cells_in m2 then) bound t i.2 (omega arith) e.made.1
          (λ u go. (λ j. returned u (first j) (next j) go) ∙ c.in_default.ensures u go)) (omega arith),
    )
