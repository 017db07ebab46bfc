use Rattle.std.proofs.Common.{ℕ, suc, ◌/◌, ◌%◌, sym, ◌∙◌, subst, arith}
use Rattle.model.specs.declared.quarters.Quarters.{Quarters}
use Rattle.store.specs.Interning.{Interned}
use Rattle.collect.specs.Collecting.{FourOf}
use Rattle.pieces.proofs.Steady.{steady_trans, keeping_self}
use Rattle.pads.proofs.Padding.{corner_interned, around_four, quarter_kept, around_is}
use Rattle.pads.proofs.corner.Goals as goal

pub intern-requires : goal.intern-requires
intern-requires c = let v = c.args.store.now in let w = c.empty.new.store in let f = c.requires.0 in let b = c.in_ok-blank.ensures.blank in
    let q = quarter_kept v w c.args.below c.args.place c.held.result c.quarter-inner.result (c.args.i / 2) (c.args.i % 2) b.steady c.held.ensures c.quarter-inner.ensures
    _ (keeping_self v c.args.place (suc c.args.below) f.below f.has) in
    record {
      good = b.good;
      four = (
        subst (FourOf w c.args.below) (sym (around_is c.quarter-inner.result c.args.i c.with-four.ensures c.all.ensures)) (around_four w c.args.below c.in_ok-blank.blank c.quarter-inner.result c.args.i c.requires.1 b.is.valid q.valid),
        let d = f.deep in omega arith,
      );
    }

pub returns : goal.returns
returns c =
    let v = c.args.store.now in let w = c.empty.new.store in let u = c.intern.new.store in let e = c.in_ok-blank.ensures in let b = e.blank in let i = c.intern.ensures in
    record {
      same = i.same ∙ e.same;
      corner = record {
        good = i.good;
        steady = steady_trans b.steady (record { still = i.still; top = i.top });
        is = corner_interned v w u c.args.below c.args.i c.args.place c.in_ok-blank.blank c.quarter-inner.result c.intern.result c.requires.1 b.is
            (quarter_kept v w c.args.below c.args.place c.held.result c.quarter-inner.result (c.args.i / 2) (c.args.i % 2) b.steady c.held.ensures c.quarter-inner.ensures)
            (subst (λ (f : Quarters ℕ). Interned w u c.args.below f c.intern.result) (around_is c.quarter-inner.result c.args.i c.with-four.ensures c.all.ensures) i.is);
      };
    }
