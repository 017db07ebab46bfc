use Rattle.std.proofs.Common.{◌≡◌, suc, ◌-◌, ◌∙◌, subst, arith}
use Rattle.store.specs.Interning.{Interned}
use Rattle.pieces.proofs.Steady.{steady_trans}
use Rattle.pads.proofs.Padding.{leaf_blank, four_blank}
use Rattle.pads.proofs.+empty.Goals as goal

pub returns-then-depth-eq0 : goal.returns-then-depth-eq0
returns-then-depth-eq0 t c =
    let e = c.intern_leaf.ensures in
    record {
      same = e.same;
      blank = record { good = e.good; steady = record { still = e.still; top = e.top }; is = leaf_blank c.intern_leaf.new.store c.args.depth c.intern_leaf.result c.if-depth-eq0.true e.is };
    }

pub returns : goal.returns
returns t c =
    let w = c.empty.new.store in let u = c.intern.new.store in let b = c.in_ok-quarter.ensures in let e = c.intern.ensures in let p = c.args.depth - 1 in
    let z : c.args.depth ≡ suc p = (let n = c.if-depth-eq0.false in omega arith) in
    record {
      same = e.same ∙ b.same;
      blank = record {
        good = e.good;
        steady = steady_trans b.blank.steady (record { still = e.still; top = e.top });
        is = four_blank w u c.args.depth p c.in_ok-quarter.quarter c.intern.result z b.blank.is (subst (λ f. Interned w u p f c.intern.result) c.all.ensures e.is);
      };
    }
