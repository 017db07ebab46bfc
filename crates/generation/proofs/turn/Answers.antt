use Rattle.std.proofs.Common.{◌≡◌, ◌+◌, List, ℕ, sym, refl, ◌∙◌}
use Rattle.model.specs.Rules.{becomes}
use Rattle.lent.specs.declared.Stretch.{Stretch}
use Rattle.lent.specs.Stretches.{to_z}
use Rattle.lent.specs.Mem.{mem}
use Rattle.lent.proofs.Lists.{on_list}
use Rattle.rules.specs.Laws.{law}
use Rattle.generation.specs.Scan.{Window, plane_next}
use Rattle.generation.proofs.Steps.{turn_hold, turn_write, progress_full}
use Rattle.generation.proofs.turn.Goals as goal

pub returns-then-not-fate-clause-turned : goal.returns-then-not-fate-clause-turned
returns-then-not-fate-clause-turned c =
    let r = law c.args.rule in let w = c.args.sweep.now in let w' = c.slide-spot.new.self in let spot = c.slide-spot.result in let l = c.list.ensures in
    let fate = on_list (λ (u : List ℕ) (v : Stretch). plane_next r u v (to_z (w.x + 1)) (to_z w.here.row) ≡ becomes r spot.alive spot.neighbours) l.words l.stretch (c.slide-spot.ensures.fate r) in
    let window = on_list (λ (u : List ℕ) (v : Stretch). Window u v w') l.words l.stretch c.slide-spot.ensures.window in
    let held = turn_hold r (mem c.args.words.now) c.args.from c.args.made.at c.args.made.len w w' c.requires.progress c.requires.window window
    c.slide-spot.ensures.x c.slide-spot.ensures.row (fate ∙ sym c.if-not-fate.ensures) in
    (refl, held.0, held.1)

pub returns-then-made-eq-MOST_CELLS-clause-turned : goal.returns-then-made-eq-MOST_CELLS-clause-turned
returns-then-made-eq-MOST_CELLS-clause-turned c =
    let r = law c.args.rule in let w = c.args.sweep.now in let spot = c.slide-spot.result in let l = c.list.ensures in
    let fate = on_list (λ (u : List ℕ) (v : Stretch). plane_next r u v (to_z (w.x + 1)) (to_z w.here.row) ≡ becomes r spot.alive spot.neighbours) l.words l.stretch (c.slide-spot.ensures.fate r) in
    (refl, progress_full r (mem c.args.words.now) c.args.from c.args.made.at c.args.made.len _ c.requires.progress (fate ∙ sym c.if-not-fate.ensures) c.if-made-eq-MOST_CELLS.true)

pub returns : goal.returns
returns c =
    let r = law c.args.rule in let w = c.args.sweep.now in let w' = c.slide-spot.new.self in let spot = c.slide-spot.result in let l = c.list.ensures in
    let fate = on_list (λ (u : List ℕ) (v : Stretch). plane_next r u v (to_z (w.x + 1)) (to_z w.here.row) ≡ becomes r spot.alive spot.neighbours) l.words l.stretch (c.slide-spot.ensures.fate r) in
    let window = on_list (λ (u : List ℕ) (v : Stretch). Window u v w') l.words l.stretch c.slide-spot.ensures.window in
    let t = turn_write r (mem c.args.words.now) (mem c.write_cell.new.self) c.args.from c.args.made.at c.args.made.len c.row.result (w.x + 1) w w'
    c.requires.progress c.requires.window window c.slide-spot.ensures.x c.slide-spot.ensures.row
    (fate ∙ sym c.if-not-fate.ensures) c.if-made-eq-MOST_CELLS.false c.row.ensures refl c.write_cell.ensures.after in
    record { same = c.write_cell.ensures.same; beside = t.0; row = c.slide-spot.ensures.row; falls = c.slide-spot.ensures.falls; turned = (refl, t.1.0, t.1.1) }
