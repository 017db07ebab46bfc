use Rattle.std.proofs.Common.{◌≡◌, ◌*◌, ◌%◌, ◌^◌, Bool, sym, ap, ◌∙◌, arith, pow_mono, rules}
use Rattle.model.specs.Squares.{Square}
use Rattle.leaf.specs.AsSquares.{word_square}
use Rattle.slots.specs.Stores.{Is}
use Rattle.notes.specs.Noting.{leap_to}
use Rattle.pieces.proofs.Steady.{leaf_answers}
use Rattle.advance.proofs.Steps.{quarters_self, words_square}
use Rattle.advance.proofs.leap_words.Goals as goal

pub map-words-requires : goal.map-words-requires
map-words-requires c =
    let q = quarters_self c.args.store.now 0 c.args.place c.held.result c.quarters.result c.requires.has c.held.ensures c.quarters.ensures in
    let nw = q.is_nw.valid.here in let ne = q.is_ne.valid.here in let sw = q.is_sw.valid.here in let se = q.is_se.valid.here in
    search rules

pub leap16-requires : goal.leap16-requires
leap16-requires c = let p = pow_mono c.requires.power in omega arith

pub returns : goal.returns
returns c =
    let v = c.args.store.now in let w = c.intern_leaf.new.store in let e = c.intern_leaf.ensures in let l = c.requires.power in let f = c.quarters.result in let g = c.map-words.result in
    let p = pow_mono l in let z : 1 * 2 ^ c.args.leap.exponent % 2 ^ 32 ≡ 2 ^ c.args.leap.exponent = omega arith in
    let nw : (q : Square Bool) → Is v 0 f.nw q → q ≡ word_square g.nw = search rules in
    let ne : (q : Square Bool) → Is v 0 f.ne q → q ≡ word_square g.ne = search rules in
    let sw : (q : Square Bool) → Is v 0 f.sw q → q ≡ word_square g.sw = search rules in
    let se : (q : Square Bool) → Is v 0 f.se q → q ≡ word_square g.se = search rules in
    record {
      same = e.same;
      leap = record {
        good = e.good;
        steady = record { still = e.still; top = e.top };
        is = leaf_answers v w 1 c.args.place c.leap16.result (leap_to c.args.leap 0) c.intern_leaf.result e.is (λ q b.
            c.leap16.ensures.leap c.args.leap.exponent l z ∙
            ap (leap_to c.args.leap 0) (sym (words_square v c.args.place c.held.result f _ _ _ _ q b c.held.ensures c.quarters.ensures nw ne sw se)));
      };
    }
