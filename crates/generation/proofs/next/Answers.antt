use Rattle.std.proofs.Common.{ℕ, ◌+◌, true, false, List, Result, sym, refl, ap, ◌∙◌, subst, arith}
use Rattle.model.specs.declared.Refusal.{Refusal}
use Rattle.lent.specs.declared.Stretch.{Stretch}
use Rattle.lent.specs.Mem.{mem}
use Rattle.lent.specs.Stretches.{Beside}
use Rattle.lent.proofs.Lists.{on_list}
use Rattle.lent.proofs.Writing.{beside_refl, beside_trans, beside_cells}
use Rattle.rules.specs.Laws.{law}
use Rattle.model.specs.Lists.{next_of}
use Rattle.generation.specs.declared.scan.Rows.{Rows}
use Rattle.generation.specs.Scan.{NextMade, RowsAt, RowsSkipped, Progress, row_start}
use Rattle.generation.proofs.RowLaws.{full_moves, progress_start, progress_rows, progress_end, progress_lower, rows_start, rows_moves}
use Rattle.generation.proofs.Handed.{handed}
use Rattle.generation.proofs.next.Goals as goal

pub loop-rule-init : goal.loop-rule-init
loop-rule-init c =
    let m = mem c.args.words.now in (
      refl,
      beside_refl c.args.to m,
      subst (λ (q : Rows). RowsAt m c.args.from q) (sym c.start-rows.ensures) (rows_start m c.args.from c.requires.listed),
      refl,
      subst (λ (q : Rows). Progress (law c.args.rule) m c.args.from c.args.to 0 (row_start (q.top + 1))) (sym c.start-rows.ensures)
          (progress_start (law c.args.rule) m c.args.from c.args.to c.args.rule.good c.requires.listed c.requires.room c.requires.apart),
    )

pub next_row-requires : goal.next_row-requires
next_row-requires c =
    let i = c.loop-rule.invariant in let l = c.list.ensures in let made = c.loop-rule.made in
    let k = on_list (λ (u : List ℕ) (v : Stretch). RowsSkipped u v c.loop-rule.rows c.skip.new.self true) l.words l.stretch c.loop-rule-test.ensures in
    record { progress = progress_rows (law c.args.rule) (mem c.loop-rule.words) c.args.from made.at made.len c.loop-rule.rows c.skip.new.self i.4 k; rows = k.0 }

pub returns-in_err-made-clause-made : goal.returns-in_err-made-clause-made
returns-in_err-made-clause-made c =
    let i = c.loop-rule.invariant in let e = c.in_err-made.ensures in
    subst (λ (o : Result Stretch Refusal). NextMade (law c.args.rule) (mem c.args.words.now) (mem c.next_row.new.words) c.args.from c.args.to o) (sym (handed _ _ c.from_residual.ensures.1))
    (e.made.0, full_moves i.1 c.args.from c.requires.apart c.requires.listed.few (law c.args.rule) e.made.1)

pub slide-requires : goal.slide-requires
slide-requires c =
    let i = c.loop-rule.invariant in let l = c.list.ensures in let then = c.list-in-loop-rule.ensures in let e = c.in_ok-made.ensures in
    let k = on_list (λ (u : List ℕ) (v : Stretch). RowsSkipped u v c.loop-rule.rows c.skip.new.self true) l.words l.stretch c.loop-rule-test.ensures in
    let beside = subst (λ (u : ℕ). Beside u (mem c.loop-rule.words) (mem c.next_row.new.words)) i.3 e.beside in (
      on_list (λ (u : List ℕ) (v : Stretch). RowsAt u v c.skip.new.self) (sym then.words) (sym then.stretch)
          (rows_moves beside c.args.from c.requires.apart c.requires.listed.few c.skip.new.self k.0),
      k.1,
    )

pub loop-rule-preserved : goal.loop-rule-preserved
loop-rule-preserved c =
    let i = c.loop-rule.invariant in let e = c.in_ok-made.ensures in let s = c.slide.ensures in let t = s.top in let then = c.list-in-loop-rule.ensures in
    let m' = mem c.next_row.new.words in let made = c.in_ok-made.made in (
      e.same ∙ i.0,
      beside_trans i.1 (subst (λ (u : ℕ). Beside u (mem c.loop-rule.words) m') i.3 e.beside),
      on_list (λ (u : List ℕ) (v : Stretch). RowsAt u v c.slide.new.self) then.words then.stretch s.rows,
      e.made.0 ∙ i.3,
      progress_lower (law c.args.rule) m' c.args.from made.at made.len _ _
          (subst (λ (u : ℕ). Progress (law c.args.rule) m' c.args.from u made.len (row_start (c.skip.new.self.top + 2))) (sym e.made.0) e.made.1) (omega (arith, t)),
    )

pub returns-clause-made : goal.returns-clause-made
returns-clause-made c =
    let i = c.loop-rule.invariant in let l = c.list.ensures in let m = mem c.loop-rule.words in let made = c.loop-rule.made in
    let k = on_list (λ (u : List ℕ) (v : Stretch). RowsSkipped u v c.loop-rule.rows c.skip.new.self false) l.words l.stretch c.loop-rule-test.ensures in (
      i.3,
      i.4.few,
      progress_end (law c.args.rule) m c.args.from made.at made.len c.loop-rule.rows i.4 k ∙
          ap (next_of (law c.args.rule)) (beside_cells i.1 c.args.from c.requires.apart c.requires.listed.few),
    )
