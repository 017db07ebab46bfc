use Rattle.std.proofs.Common.{Bool, T, sym, refl, ap, ◌∙◌, subst, arith}
use Rattle.model.specs.Cells.{put}
use Rattle.lent.specs.Mem.{mem}
use Rattle.lent.specs.Entries.{cell_of}
use Rattle.lent.specs.Stretches.{cells_in}
use Rattle.cells.specs.Places.{Holds}
use Rattle.runs.specs.Stages.{Staged}
use Rattle.listplane.proofs.Changes.{changed, when_no, held_cell}
use Rattle.listplane.proofs.change.Goals as goal

pub returns-then-lives : goal.returns-then-lives
returns-then-lives c =
    let m = mem c.args.words.now in let m' = mem c.insert.new.words in let s = c.args.s in let is = c.insert.ensures.stretch in
    let e = c.insert.ensures.cells ∙ ap (λ (b : Bool). put (cell_of c.args.entry) b (cells_in m s)) (sym c.if-lives.true) in
    let few = c.requires.room (subst T (sym c.if-lives.true) tt) in
    record {
      same = c.insert.ensures.same;
      cells = ap (cells_in m') is ∙ e;
      staged = subst (Staged m') (sym is)
          (changed m m' s _ (cell_of c.args.entry) c.args.lives c.requires.staged c.insert.ensures.beside.long refl (omega arith) c.requires.near e);
    }

pub returns-else-lives : goal.returns-else-lives
returns-else-lives c =
    let m = mem c.args.words.now in let m' = mem c.remove.new.words in let s = c.args.s in let is = c.remove.ensures.stretch in
    let row = c.args.entry.row in let column = c.args.entry.column in
    let held = held_cell m s c.args.i row column (when_no _ (Holds m s c.args.i row column) c.args.lives c.requires.other c.if-lives.false) in
    let e = c.remove.ensures.cells ∙ (λ i. put (held i) (sym c.if-lives.false i) (cells_in m s)) in let few = c.requires.staged.few in
    record {
      same = c.remove.ensures.same;
      cells = ap (cells_in m') is ∙ e;
      staged = subst (Staged m') (sym is)
          (changed m m' s _ (cell_of c.args.entry) c.args.lives c.requires.staged c.remove.ensures.beside.long refl (omega arith) c.requires.near e);
    }
