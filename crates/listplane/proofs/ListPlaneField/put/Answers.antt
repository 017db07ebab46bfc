use Rattle.std.proofs.Common.{◌≡◌, Bool, true, rules, ℕ, not, T, List, MatchBool, sym, refl, ap, ◌∙◌, subst}
use Rattle.model.specs.declared.Cell.{Cell}
use Rattle.model.specs.World.{world_of}
use Rattle.rules.specs.Laws.{law}
use Rattle.lent.specs.declared.Stretch.{Stretch}
use Rattle.lent.specs.Stretches.{cells_in}
use Rattle.lent.proofs.Lists.{on_list}
use Rattle.cells.specs.Places.{Place, Holds}
use Rattle.cells.proofs.Finds.{place_lives}
use Rattle.listplane.specs.Good.{world_on}
use Rattle.listplane.proofs.Changes.{put_same, put_crowded, differ, agree}
use Rattle.listplane.proofs.ListPlaneField.put.Goals as goal

pub returns-then-holds-lives-clause-put : goal.returns-then-holds-lives-clause-put
returns-then-holds-lives-clause-put c =
    let s = c.args.self.now.list in let m = c.args.mem.now in let e = c.from_cell-entry.result in let is = c.from_cell-entry.ensures in let i = c.find-i.result in
    let l = c.cells.ensures in let k = c.cells-2.ensures in
    let place = on_list (λ (u : List ℕ) (v : Stretch). Place u v e.row e.column i) l.words l.stretch c.find-i.ensures in
    let held = on_list (λ (u : List ℕ) (v : Stretch). MatchBool c.holds.result (Holds u v i e.row e.column) (Holds u v i e.row e.column → ⊥)) k.words k.stretch c.holds.ensures in
    let there = place_lives m s e.row e.column i c.args.at.x c.args.at.y c.holds.result c.requires.listed place (ap (λ (d : Cell). d.x) is) (ap (λ (d : Cell). d.y) is) held in (
      subst (λ (z : Bool). T (not z)) c.if-is_far.ensures tt,
      ap (world_of (law c.args.self.now.rule)) (put_same c.args.at c.args.lives (cells_in m s) c.requires.listed.ordered (sym there ∙ agree c.holds.result c.args.lives c.if-holds-lives.true)),
    )

pub returns-then-self-eq-MOST_CELLS-clause-put : goal.returns-then-self-eq-MOST_CELLS-clause-put
returns-then-self-eq-MOST_CELLS-clause-put c =
    let s = c.args.self.now.list in let m = c.args.mem.now in let e = c.from_cell-entry.result in let is = c.from_cell-entry.ensures in let i = c.find-i.result in
    let l = c.cells.ensures in let k = c.cells-2.ensures in
    let place = on_list (λ (u : List ℕ) (v : Stretch). Place u v e.row e.column i) l.words l.stretch c.find-i.ensures in
    let held = on_list (λ (u : List ℕ) (v : Stretch). MatchBool c.holds.result (Holds u v i e.row e.column) (Holds u v i e.row e.column → ⊥)) k.words k.stretch c.holds.ensures in
    let there = place_lives m s e.row e.column i c.args.at.x c.args.at.y c.holds.result c.requires.listed place (ap (λ (d : Cell). d.x) is) (ap (λ (d : Cell). d.y) is) held in
    let yes : c.args.lives ≡ true = search rules in (
      subst (λ (z : Bool). T (not z)) c.if-is_far.ensures tt,
      put_crowded m s (world_on c.args.self.now m) c.args.at c.args.lives refl c.if-self-eq-MOST_CELLS.true yes
          (sym there ∙ differ c.holds.result c.args.lives c.if-holds-lives.false ∙ ap not yes),
      refl,
    )
