use Rattle.std.proofs.Common.{refl, rules, suc, sym, ◌∙◌, subst, arith}
use Rattle.slots.specs.Stores.{Has}
use Rattle.pieces.proofs.Nine.{is_self}
use Rattle.pieces.proofs.Steady.{steady_trans}
use Rattle.seek.specs.Putting.{put_in}
use Rattle.seek.proofs.Paths.{rest_within}
use Rattle.seek.proofs.Steps.{joining, joins_four, joins_answer, number_task}
use Rattle.seek.proofs.+putting.Goals as goal

pub put_in_quarter-put_number-requires : goal.put_in_quarter-put_number-requires
put_in_quarter-put_number-requires t c =
    let v = c.args.store.now in let b = c.args.below in let deep = c.requires.deep in let room = c.requires.room in
    let h = subst (Has v (suc b)) (sym c.held-number.ensures) c.requires.has in (
      omega arith,
      record {
        good = c.requires.good;
        has = (c.quarter-old.ensures b _ (is_self v (suc b) _ h)).valid;
        deep = omega arith;
        column = rest_within c.args.put.x _ b c.side-half.ensures;
        row = rest_within c.args.put.y _ b c.side-half.ensures;
        room = omega arith;
      },
    )

pub put_in_quarter-intern-requires : goal.put_in_quarter-intern-requires
put_in_quarter-intern-requires t c = let v = c.args.store.now in let w = c.put_number.new.store in let e = c.in_ok-new.ensures.put in let deep = c.requires.deep in
    record {
      good = e.good;
      four = (
        joins_four v w c.args.below c.args.place c.args.put.x c.args.put.y c.side-half.result c.args.put.lives c.with-four.result c.requires.below c.requires.has
            (joining v w c.args.below c.args.place c.args.put.x c.args.put.y c.side-half.result c.held-number.result c.quarter-old.result c.in_ok-new.new c.args.put.lives
            c.quarters.result c.with-four.result e.steady c.held-number.ensures c.quarter-old.ensures e.is c.quarters.ensures c.with-four.ensures),
        omega arith,
      );
    }

pub put_in_quarter-returns : goal.put_in_quarter-returns
put_in_quarter-returns t c =
    let v = c.args.store.now in let w = c.put_number.new.store in let u = c.intern.new.store in
    let e = c.in_ok-new.ensures in let i = c.intern.ensures in
    record {
      same = i.same ∙ e.same;
      put = record {
        good = i.good;
        steady = steady_trans e.put.steady (record { still = i.still; top = i.top });
        is = joins_answer v w u c.args.below c.args.place c.args.put.x c.args.put.y c.side-half.result c.args.put.lives c.with-four.result c.intern.result c.requires c.side-half.ensures
            (joining v w c.args.below c.args.place c.args.put.x c.args.put.y c.side-half.result c.held-number.result c.quarter-old.result c.in_ok-new.new c.args.put.lives
            c.quarters.result c.with-four.result e.put.steady c.held-number.ensures c.quarter-old.ensures e.put.is c.quarters.ensures c.with-four.ensures) i.is;
      };
    }

pub put_number-while_held-requires-clause-callable : goal.put_number-while_held-requires-clause-callable
put_number-while_held-requires-clause-callable t c = λ w good pushed.
    (omega arith, number_task c.args.store.now w.now c.args.depth c.args.number c.args.store.now.top c.args.put.x c.args.put.y c.requires good pushed refl)

pub put_number-returns-clause-put : goal.put_number-returns-clause-put
put_number-returns-clause-put t c = let d = c.args.depth in c.while_held.ensures.given d d (put_in d c.args.put.x c.args.put.y c.args.put.lives) (λ w r w' p. search rules)
