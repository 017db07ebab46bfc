use Rattle.std.proofs.Common.{rules, Bool, ◌≡◌, ℕ, suc, ◌-◌, sym, ◌∙◌, subst, arith}
use Rattle.model.specs.Squares.{Square, Four, middle}
use Rattle.leaf.specs.AsSquares.{word_square}
use Rattle.slots.specs.Stores.{Has, Is}
use Rattle.pieces.proofs.Nine.{is_self, middle_interned, middle_leaf}
use Rattle.pieces.proofs.Words.{middle_word}
use Rattle.pieces.proofs.middle_of.Goals as goal

pub returns-then-depth-eq0 : goal.returns-then-depth-eq0
returns-then-depth-eq0 c =
    let v = c.args.store.now in let w = c.intern_leaf.new.store in let e = c.intern_leaf.ensures in let m = c.middle.ensures in let f = c.args.four in let g = c.map-words.result in
    let pa : (q : Square Bool) → Is v 0 f.nw q → q ≡ word_square g.nw = search rules in
    let pb : (q : Square Bool) → Is v 0 f.ne q → q ≡ word_square g.ne = search rules in
    let pc : (q : Square Bool) → Is v 0 f.sw q → q ≡ word_square g.sw = search rules in
    let pd : (q : Square Bool) → Is v 0 f.se q → q ≡ word_square g.se = search rules in
    record {
      same = e.same;
      middle = record {
        good = e.good;
        steady = record { still = e.still; top = e.top };
        is = middle_leaf v w c.args.depth f c.middle.result c.intern_leaf.result c.if-depth-eq0.true e.is (λ a b d e ha hb hd he.
            middle_word g.nw g.ne g.sw g.se c.middle.result m.nw m.ne m.sw m.se ∙
            (λ i. middle (Four (sym (pa a ha) i) (sym (pb b hb) i) (sym (pc d hd) i) (sym (pd e he) i))));
      };
    }

pub intern-requires : goal.intern-requires
intern-requires c = let v = c.args.store.now in let f = c.requires.four.0 in let p = c.args.depth - 1 in let l = c.requires.four.1 in
    let z : c.args.depth ≡ suc p = let n = c.if-depth-eq0.false in omega arith in
    let self : (i : ℕ) → Has v c.args.depth i → _ = λ i h. is_self v (suc p) i (subst (λ (d : ℕ). Has v d i) z h) in
    record {
      good = c.requires.good;
      four = (
        record {
          has_nw = (c.quarters.ensures p _ (self _ f.has_nw)).is_se.valid;
          has_ne = (c.quarters-2.ensures p _ (self _ f.has_ne)).is_sw.valid;
          has_sw = (c.quarters-3.ensures p _ (self _ f.has_sw)).is_ne.valid;
          has_se = (c.quarters-4.ensures p _ (self _ f.has_se)).is_nw.valid;
        },
        omega arith,
      );
    }

pub returns : goal.returns
returns c =
    let v = c.args.store.now in let w = c.intern.new.store in let e = c.intern.ensures in let p = c.args.depth - 1 in
    let z : c.args.depth ≡ suc p = let n = c.if-depth-eq0.false in omega arith in
    record {
      same = e.same;
      middle = record {
        good = e.good;
        steady = record { still = e.still; top = e.top };
        is = middle_interned v w c.args.depth p c.args.four _ c.intern.result z (λ q h. (c.quarters.ensures p q h).is_se) (λ q h. (c.quarters-2.ensures p q h).is_sw)
            (λ q h. (c.quarters-3.ensures p q h).is_ne) (λ q h. (c.quarters-4.ensures p q h).is_nw) e.is;
      };
    }
