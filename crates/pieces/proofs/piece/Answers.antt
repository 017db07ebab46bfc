use Rattle.std.proofs.Common.{ℕ, suc, ◌/◌, ◌%◌, Bool, sym, refl, ◌∙◌, subst}
use Rattle.model.specs.Squares.{Square}
use Rattle.slots.specs.Stores.{Is, Has}
use Rattle.holds.specs.Holding.{held}
use Rattle.holds.proofs.Chain.{still_refl}
use Rattle.pieces.specs.Nine.{quarter_at}
use Rattle.pieces.proofs.Nine.{four_of_lem, even_piece, piece_interned, is_self}
use Rattle.pieces.proofs.piece.Goals as goal

pub returns-then-column-eq0 : goal.returns-then-column-eq0
returns-then-column-eq0 c =
    let v = c.args.store.now in let b = c.args.below in let r = c.args.i / 3 in let k = c.args.i % 3 in
    record {
      same = refl;
      good = c.requires.good.0;
      steady = record { still = still_refl v.top v; top = refl };
      is = λ q p.
          let h = c.quarter.ensures (suc b) q (subst (λ (i : ℕ). Is v (suc (suc b)) i q) (sym c.held-number.ensures) p.is) in let x = quarter_at (r / 2) (k / 2) q in
          subst (Is v (suc b) c.quarter.result) (four_of_lem v b _ x h ∙ sym (even_piece r k q x c.if-row-eq0.true c.if-column-eq0.true refl)) h;
    }

pub intern-requires : goal.intern-requires
intern-requires c = let v = c.args.store.now in let b = c.args.below in
    let h = subst (λ (i : ℕ). Has v (suc (suc b)) i) (sym c.held-number.ensures) c.requires.square.1.0 in let s = is_self v (suc (suc b)) _ h in
    record {
      good = c.requires.good.0;
      four = (
        record {
          has_nw = (c.small_quarter.ensures c.args.below _ s).valid;
          has_ne = (c.small_quarter-2.ensures c.args.below _ s).valid;
          has_sw = (c.small_quarter-3.ensures c.args.below _ s).valid;
          has_se = (c.small_quarter-4.ensures c.args.below _ s).valid;
        },
        c.requires.good.1,
      );
    }

pub returns : goal.returns
returns c =
    let v = c.args.store.now in let b = c.args.below in let w = c.intern.new.store in let e = c.intern.ensures in
    let at : (q : Square Bool) → Is v (suc (suc b)) (held v c.args.place) q → Is v (suc (suc b)) c.held-number.result q =
    λ q h. subst (λ (i : ℕ). Is v (suc (suc b)) i q) (sym c.held-number.ensures) h in
    record {
      same = e.same;
      good = e.good;
      steady = record { still = e.still; top = e.top };
      is = piece_interned v w b c.args.place (c.args.i / 3) (c.args.i % 3) _ c.intern.result
          (λ q h. c.small_quarter.ensures c.args.below q (at q h)) (λ q h. c.small_quarter-2.ensures c.args.below q (at q h)) (λ q h. c.small_quarter-3.ensures c.args.below q (at q h))
          (λ q h. c.small_quarter-4.ensures c.args.below q (at q h)) e.is;
    }
