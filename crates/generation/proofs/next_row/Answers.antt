use Rattle.std.proofs.Common.{ℕ, ◌+◌, List, Result, sym, refl, ◌∙◌, subst, arith}
use Rattle.model.specs.declared.Refusal.{Refusal}
use Rattle.lent.specs.declared.Stretch.{Stretch}
use Rattle.lent.specs.Mem.{mem}
use Rattle.lent.specs.Stretches.{Beside}
use Rattle.lent.proofs.Lists.{on_list}
use Rattle.lent.proofs.Writing.{beside_refl, beside_trans}
use Rattle.rules.specs.Laws.{law}
use Rattle.generation.specs.Scan.{Progress, RowMade, Window, centre_of, row_start}
use Rattle.generation.proofs.Steps.{progress_begin, progress_skip, progress_row}
use Rattle.generation.proofs.RowLaws.{full_moves}
use Rattle.generation.proofs.Handed.{handed}
use Rattle.generation.proofs.next_row.Goals as goal

pub loop-rule-init : goal.loop-rule-init
loop-rule-init c =
    let l = c.list.ensures in let w = on_list (λ (u : List ℕ) (v : Stretch). Window u v c.start-sweep.result) l.words l.stretch c.start-sweep.ensures.window in
    let e = w.second in let f = c.start-sweep.ensures.row in (
      refl,
      beside_refl c.args.made.at (mem c.args.words.now),
      w,
      refl,
      refl,
      progress_begin (law c.args.rule) (mem c.args.words.now) c.args.from c.args.made.at c.args.made.len (c.args.rows.top + 1) c.start-sweep.result c.requires.progress c.start-sweep.ensures.x (omega arith),
    )

pub turn-requires : goal.turn-requires
turn-requires c =
    let i = c.loop-rule.invariant in let m = mem c.loop-rule.words in let k = c.loop-rule-test.ensures m c.args.from i.5.listed i.2 in let made = c.loop-rule.grown in
    record { progress = progress_skip (law c.args.rule) m c.args.from made.at made.len c.loop-rule.sweep c.skip.new.self i.2 i.5 k; window = k.0; ready = k.1 }

pub returns-in_err-grown : goal.returns-in_err-grown
returns-in_err-grown c =
    let i = c.loop-rule.invariant in let e = c.in_err-grown.ensures in let p = c.requires.progress in
    record {
      same = e.same ∙ i.0;
      beside = beside_trans i.1 (subst (λ (u : ℕ). Beside u (mem c.loop-rule.words) (mem c.turn.new.words)) i.4 e.beside);
      made = subst (λ (o : Result Stretch Refusal). RowMade (law c.args.rule) (mem c.args.words.now) (mem c.turn.new.words) c.args.from c.args.made.at (c.args.rows.top + 2) o) (sym (handed _ _ c.from_residual.ensures.1))
          (e.turned.0, full_moves i.1 c.args.from p.apart p.listed.few (law c.args.rule) e.turned.1);
    }

pub loop-rule-smaller : goal.loop-rule-smaller
loop-rule-smaller c =
    let i = c.loop-rule.invariant in let m = mem c.loop-rule.words in let k = c.loop-rule-test.ensures m c.args.from i.5.listed i.2 in
    let a = k.2 in let b = c.in_ok-grown.ensures.falls in omega (arith, a, b)

pub loop-rule-preserved : goal.loop-rule-preserved
loop-rule-preserved c =
    let i = c.loop-rule.invariant in let m = mem c.loop-rule.words in let m' = mem c.turn.new.words in let k = c.loop-rule-test.ensures m c.args.from i.5.listed i.2 in
    let e = c.in_ok-grown.ensures in let t = e.turned in (
      e.same ∙ i.0,
      beside_trans i.1 (subst (λ (u : ℕ). Beside u m m') i.4 e.beside),
      t.2,
      e.row ∙ k.3 ∙ i.3,
      t.0 ∙ i.4,
      subst (λ (u : ℕ). Progress (law c.args.rule) m' c.args.from u c.in_ok-grown.grown.len (centre_of c.turn.new.sweep)) (sym t.0) t.1,
    )

pub returns-clause-made : goal.returns-clause-made
returns-clause-made c =
    let i = c.loop-rule.invariant in let m = mem c.loop-rule.words in let k = c.loop-rule-test.ensures m c.args.from i.5.listed i.2 in
    let f = c.start-sweep.ensures.row in let i3 = i.3 in let made = c.loop-rule.grown in (
      i.4,
      subst (λ (u : ℕ). Progress (law c.args.rule) m c.args.from u made.len (row_start (c.args.rows.top + 2))) i.4
          (progress_row (law c.args.rule) m c.args.from made.at made.len (c.args.rows.top + 2) c.loop-rule.sweep i.2 i.5 k (omega (arith, i3, f))),
    )
