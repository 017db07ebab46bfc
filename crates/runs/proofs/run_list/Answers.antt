use Rattle.std.proofs.Common.{Result, Err, refl, sym, ap, ◌∙◌, subst, arith}
use Rattle.model.specs.declared.Refusal.{Refusal}
use Rattle.lent.specs.declared.Stretch.{Stretch}
use Rattle.lent.specs.Mem.{mem}
use Rattle.lent.proofs.Lists.{list_cells}
use Rattle.rules.specs.Laws.{law}
use Rattle.generation.proofs.Handed.{handed}
use Rattle.runs.specs.Stages.{ListRan}
use Rattle.runs.proofs.Staging.{told_fit, told_same, running_start, running_next, running_near, running_full, running_still}
use Rattle.runs.proofs.run_list.Goals as goal

pub loop-init : goal.loop-init
loop-init c = (refl, running_start (law c.args.rule) (mem c.args.words.now) c.args.home c.requires)

pub next_stage-requires-clause-near : goal.next_stage-requires-clause-near
next_stage-requires-clause-near c =
    let i = c.loop.invariant in let l = c.list.ensures in
    let fit = told_fit c.if-not-fits.ensures refl (list_cells c.list.result l.words l.stretch) in
    running_near (law c.args.rule) c.args.rule.good (mem c.args.words.now) (mem c.loop.words) c.args.home c.loop.last c.loop.counter c.args.n i.1 fit c.loop-test.true

pub returns-in_err-then-clause-ran : goal.returns-in_err-then-clause-ran
returns-in_err-then-clause-ran c =
    let i = c.loop.invariant in let l = c.list.ensures in let e = c.in_err-then.ensures in
    let fit = told_fit c.if-not-fits.ensures refl (list_cells c.list.result l.words l.stretch) in
    subst (λ (o : Result Stretch Refusal). ListRan (law c.args.rule) c.args.n (mem c.args.words.now) (mem c.next_stage.new.words) c.args.home o)
    (sym (handed _ _ c.from_residual.ensures.1 ∙ ap Err e.made.0))
    (fit, running_full (law c.args.rule) (mem c.args.words.now) (mem c.loop.words) c.args.home c.loop.last c.loop.counter c.args.n i.1 c.loop-test.true e.made.1)

pub returns-then-same-clause-ran : goal.returns-then-same-clause-ran
returns-then-same-clause-ran c =
    let i = c.loop.invariant in let l = c.list.ensures in let e = c.in_ok-then.ensures in let t = c.loop-test.true in
    let fit = told_fit c.if-not-fits.ensures refl (list_cells c.list.result l.words l.stretch) in
    let p = c.list-in-loop.ensures in let q = c.list-in-loop-2.ensures in
    let alike = told_same c.if-same.ensures (list_cells c.list-in-loop.result p.words p.stretch) (list_cells c.list-in-loop-2.result q.words q.stretch) in (
      fit,
      e.last.staged,
      running_still (law c.args.rule) (mem c.args.words.now) (mem c.loop.words) (mem c.next_stage.new.words) c.args.home c.loop.last c.in_ok-then.then c.loop.counter c.args.n i.1 e.last e.made.1 (omega (arith, t)) alike,
    )

pub loop-preserved : goal.loop-preserved
loop-preserved c =
    let i = c.loop.invariant in let e = c.in_ok-then.ensures in (
      e.same ∙ i.0,
      running_next (law c.args.rule) (mem c.args.words.now) (mem c.loop.words) (mem c.next_stage.new.words) c.args.home c.loop.last c.in_ok-then.then c.loop.counter i.1 e.home e.made.0 e.made.1,
    )
