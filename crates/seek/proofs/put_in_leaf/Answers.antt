use Rattle.std.proofs.Common.{ℕ, sym, ap, ◌∙◌, subst}
use Rattle.slots.specs.Stores.{Is}
use Rattle.pieces.proofs.Steady.{leaf_answers}
use Rattle.seek.specs.Putting.{put_in}
use Rattle.seek.proofs.Steps.{word_put}
use Rattle.seek.proofs.put_in_leaf.Goals as goal

pub returns : goal.returns
returns c =
    let v = c.args.store.now in let w = c.intern_leaf.new.store in let e = c.intern_leaf.ensures in
    let x = c.args.put.x in let y = c.args.put.y in let o = c.args.put.lives in
    record {
      same = e.same;
      put = record {
        good = e.good;
        steady = record { still = e.still; top = e.top };
        is = leaf_answers v w 0 c.args.place c.with_cell.result (put_in 0 x y o) c.intern_leaf.result e.is (λ q p.
            let i = subst (λ (j : ℕ). Is v 0 j q) (sym c.held.ensures) p.is in
            word_put c.cells-word.result c.with_cell.result x y o c.requires.column c.requires.row c.with_cell.ensures ∙ ap (put_in 0 x y o) (sym (c.cells-word.ensures q i)));
      };
    }
