use Rattle.std.proofs.Common.{◌≡◌, ℕ, suc, ◌+◌, ◌-◌, ◌%◌, ◌<◌, sym, ap, ◌∙◌, subst, arith, rules}
use Rattle.leaf.specs.AsSquares.{word_square}
use Rattle.slots.specs.Stores.{Is}
use Rattle.holds.specs.declared.Hold.{Hold}
use Rattle.trees.specs.declared.seeds.Place.{Place}
use Rattle.trees.specs.Growing.{quarter_at, grown, Inside, Made}
use Rattle.trees.proofs.Rows.{taken_new, taken_from, taken_trans, taken_on, taken_end, row_new, row_here, row_on}
use Rattle.trees.proofs.Growing.{inside_quarter, inside_most, grown_leaf, made_leaf, also_row, also_gone, made_popped, made_four, four_held}
use Rattle.trees.proofs.+grow.Goals as goal

pub returns-then-depth-eq0 : goal.returns-then-depth-eq0
returns-then-depth-eq0 t c =
    let e = c.intern_leaf.ensures in let l = c.args.leaves in let p = c.args.place in let w = c.intern_leaf.new.store in let r = c.intern_leaf.result in let z = c.if-depth-eq0.true in
    record {
      kept = record { same = e.same; good = e.good; still = e.still; top = e.top };
      is = subst (λ (d : ℕ). Made w d (grown l c.args.depth p) r) (sym z)
          (subst (λ q. Made w 0 q r) (ap word_square c.cells.ensures ∙ grown_leaf l c.args.depth p z) (made_leaf w c.cells.result r e.is));
    }

pub quarter-requires : goal.quarter-requires
quarter-requires t c = (inside_most _ _ c.requires.inside.1, omega arith)

pub grow-requires : goal.grow-requires
grow-requires t c =
    let i = c.requires.inside in let m = i.0 in let r = c.requires.room in let n : 0 < c.args.depth = omega (arith, c.if-depth-eq0.false) in (
      omega arith,
      (c.requires.good, (omega arith, (omega arith, subst (Inside (40 - (c.args.depth - 1))) (sym c.quarter.ensures) (inside_quarter c.args.depth (c.args.order % 4) c.args.place n m (omega arith) i.1)))),
    )

pub loop-k-init : goal.loop-k-init
loop-k-init t c =
    let e = c.in_ok-number.ensures in let f = c.take-hold.ensures in let l = c.args.leaves in let d = c.args.depth - 1 in let o = c.args.order % 4 in
    let z : o ≡ (o + 0) % 4 = omega arith in
    row_here (row_new (λ j. grown l d (quarter_at c.args.place ((o + j) % 4)))
    (subst (λ (p : Place). Is c.grow.new.store d c.in_ok-number.number (grown l d p)) (c.quarter.ensures ∙ ap (quarter_at c.args.place) z) e.is) f.same f.good f.pushed f.is)

pub quarter-next-requires : goal.quarter-next-requires
quarter-next-requires t c = (inside_most _ _ c.requires.inside.1, omega arith)

pub grow-made-requires : goal.grow-made-requires
grow-made-requires t c =
    let i = c.requires.inside in let m = i.0 in let r = c.requires.room in let n : 0 < c.args.depth = omega (arith, c.if-depth-eq0.false) in
    let v = c.loop-k.invariant in let b = c.loop-k-test.true in let k = c.in_ok-number.ensures.kept.top in let h = ap (λ (h : Hold). h.from) c.take-hold.ensures.is in
    let f = v.taken.from in let e = v.taken.last.ends in let l = v.len in (
      omega arith,
      (
        v.taken.good,
        (
          omega arith,
          (
            omega arith,
            subst (Inside (40 - (c.args.depth - 1))) (sym c.quarter-next.ensures) (inside_quarter c.args.depth ((c.args.order % 4 + c.loop-k.k) % 4) c.args.place n m (omega arith) i.1),
          ),
        ),
      ),
    )

pub returns-in_err-hold-clause-kept : goal.returns-in_err-hold-clause-kept
returns-in_err-hold-clause-kept t c =
    let e = c.in_ok-number.ensures in let f = c.take-hold.ensures in let m = c.grow-made.ensures in
    let k = taken_from e.kept (taken_new f.same f.good f.pushed f.is) in
    (also_gone (c.args.depth - 1) _ c.grow-made.result _ (taken_trans k (taken_on c.loop-k.invariant.taken m.kept)) m.is c.in_err-hold.ensures).0

pub loop-k-preserved : goal.loop-k-preserved
loop-k-preserved t c =
    let e = c.grow-made.ensures in let l = c.args.leaves in let d = c.args.depth - 1 in
    also_row c.grow-made.result (row_on c.loop-k.invariant e.kept)
    (subst (λ (p : Place). Made c.grow-made.new.store d (grown l d p) c.grow-made.result) c.quarter-next.ensures e.is) c.in_ok-hold.ensures

pub returns : goal.returns
returns t c =
    let b = c.loop-k-test.false in let m = c.loop-k.auto.k-end (omega arith) in
    let four = four_held (c.args.order % 4) (c.args.depth - 1) c.loop-k.k c.args.leaves c.args.place c.of-quarters.result (omega arith) (omega arith) c.loop-k.invariant
    (search rules) (search rules) (search rules) (search rules) in
    let e = c.in_ok-number.ensures in let f = c.take-hold.ensures in let i = c.intern-made.ensures in let g = c.release.ensures in let d = c.args.depth in
    let l = c.args.leaves in let p = c.args.place in let w = c.intern-made.new.store in let r = c.intern-made.result in
    let k = taken_from e.kept (taken_new f.same f.good f.pushed f.is) in
    let z : suc (d - 1) ≡ d = omega (arith, c.if-depth-eq0.false) in
    record {
      kept = taken_end (taken_trans k (taken_on c.loop-k.invariant.taken (record { same = i.same; good = i.good; still = i.still; top = i.top }))) g.same g.good g.popped;
      is = made_popped d (grown l d p) r g.popped (subst (λ (d : ℕ). Made w d (grown l d p) r) z (made_four w r four i.is));
    }
