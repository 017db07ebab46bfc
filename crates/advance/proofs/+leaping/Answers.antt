use Rattle.std.proofs.Common.{◌≡◌, ℕ, suc, ◌+◌, refl, ap, ◌∙◌, subst, arith, rules}
use Rattle.slots.specs.Stores.{Still}
use Rattle.holds.specs.declared.Hold.{Hold}
use Rattle.holds.specs.Holding.{Popped}
use Rattle.holds.proofs.Chain.{still_refl, still_less, still_trans, is_grows}
use Rattle.notes.specs.Noting.{leap_to}
use Rattle.pieces.proofs.Steady.{steady_trans, steady_grown, released}
use Rattle.advance.specs.Gathering.{whole}
use Rattle.advance.proofs.Steps.{nothing_answer, noted_answer, leap_known, has_number, number_task, piece_loose, piece_leap, fours, four_has, four_loose, four_leap, four_middle}
use Rattle.advance.proofs.Parts.{Loop, rooted, nined, loop_break, loop_more, loop_end, part_has, lasts, lasts_four, joined_is}
use Rattle.advance.proofs.+leaping.Goals as goal

pub advance-returns-then-count-eq0 : goal.advance-returns-then-count-eq0
advance-returns-then-count-eq0 t c =
    let v = c.args.store.now in
    record {
      same = refl;
      leap = record {
        good = c.requires.good;
        steady = record { still = still_refl v.top v; top = refl };
        is = nothing_answer v c.args.leap c.args.depth c.args.place c.held-number.result c.count.result c.quarters.result c.requires c.held-number.ensures
            c.count.ensures c.if-count-eq0.true c.quarters.ensures;
      };
    }

pub advance-returns-in-Some : goal.advance-returns-in-Some
advance-returns-in-Some t c =
    let v = c.args.store.now in
    record {
      same = refl;
      leap = record {
        good = c.requires.good;
        steady = record { still = still_refl v.top v; top = refl };
        is = noted_answer v c.args.leap c.args.depth c.args.place c.held-number.result c.in-Some.target c.held-number.ensures
            (c.in-Some.ensures.leap c.in-Some.target refl);
      };
    }

pub advance-note-requires : goal.advance-note-requires
advance-note-requires t c = let v = c.args.store.now in let w = c.work_out.new.store in let o = c.in_ok-target.ensures.leap in
    let l = c.args.leap in let p = c.args.depth in let k = c.args.place in let i = c.held-number.result in
    record {
      good = o.good;
      square = (has_number v w l p k i c.requires c.held-number.ensures o.steady, c.requires.power);
      leap = leap_known v w l p k i c.in_ok-target.target c.requires c.held-number.ensures o.steady o.is;
    }

pub advance-returns : goal.advance-returns
advance-returns t c =
    let w = c.work_out.new.store in let u = c.note.new.store in let o = c.in_ok-target.ensures in let n = c.note.ensures in
    record {
      same = n.same ∙ o.same;
      leap = record {
        good = n.good;
        steady = steady_trans o.leap.steady (steady_grown w u o.leap.good n.fixed n.front n.grows);
        is = λ q b. is_grows w u n.fixed.at n.fixed.slots n.grows (o.leap.is q b);
      };
    }

pub advance_number-while_held-requires-clause-callable : goal.advance_number-while_held-requires-clause-callable
advance_number-while_held-requires-clause-callable t c = λ w good pushed.
    (omega arith, number_task c.args.store.now w.now c.args.leap c.args.depth c.args.number c.args.store.now.top c.requires good pushed refl)

pub advance_number-returns-clause-leap : goal.advance_number-returns-clause-leap
advance_number-returns-clause-leap t c = let d = c.args.depth in c.while_held.ensures.given (suc d) d (leap_to c.args.leap d) (λ w r w' p. search rules)

pub Larger::gather-returns-in_err-number : goal.Larger::gather-returns-in_err-number
Larger::gather-returns-in_err-number t c =
    let v = c.args.store.now in let w = c.loop-i.store in let u = c.ninth.new.store in let g = c.args.parts.now in let h = c.loop-i.parts in let e = c.in_err-number.ensures in
    record {
      same = e.same ∙ c.loop-i.invariant.0;
      gathered = loop_break v w u g h c.args.self c.loop-i.i _ c.from_residual.result c.from_residual.ensures.0 c.loop-i.invariant.1 e.part;
    }

pub Larger::gather-ninth-requires : goal.Larger::gather-ninth-requires
Larger::gather-ninth-requires t c =
    let l = c.loop-i-test.true in
    (omega arith, (rooted c.loop-i.store c.loop-i.parts c.args.self c.loop-i.i (omega arith) c.loop-i.invariant.1.ready, l))

pub Larger::gather-add-requires : goal.Larger::gather-add-requires
Larger::gather-add-requires t c = let w = c.loop-i.store in let u = c.ninth.new.store in let h = c.loop-i.parts in let o = c.in_ok-number.ensures.part in let n = c.loop-i.i in let p = c.loop-i.invariant.1.ready in let l = c.loop-i-test.true in
    let has = part_has w u h c.args.self n c.in_ok-number.number (omega arith) p o in
    let deep = has.deep in let top = o.steady.top in let room = p.room in let ends = p.parts.ends in let len = p.parts.len in
    record { good = o.good; square = (has.here, omega arith); room = (omega arith, record { ends = omega arith }) }

pub Larger::gather-loop-i-preserved : goal.Larger::gather-loop-i-preserved
Larger::gather-loop-i-preserved t c =
    let v = c.args.store.now in let w = c.loop-i.store in let u = c.ninth.new.store in let z = c.add.new.store in let g = c.args.parts.now in let h = c.loop-i.parts in
    let e = c.in_ok-number.ensures in let a = c.add.ensures in (
      a.same ∙ e.same ∙ c.loop-i.invariant.0,
      loop_more v w u z g h c.add.new.self c.args.self c.loop-i.i c.in_ok-number.number c.loop-i.invariant.1 e.part a.good a.pushed a.more,
    )

pub Larger::gather-loop-i-2-init : goal.Larger::gather-loop-i-2-init
Larger::gather-loop-i-2-init t c =
    let n : c.loop-i.i ≡ 9 = (let a = c.loop-i-test.false in let b = c.loop-i.auto.i-end in omega arith) in
    (c.loop-i.invariant.0, subst (Loop c.args.store.now c.loop-i.store c.args.parts.now c.loop-i.parts c.args.self) n c.loop-i.invariant.1)

pub Larger::gather-returns-in_err-number-2 : goal.Larger::gather-returns-in_err-number-2
Larger::gather-returns-in_err-number-2 t c =
    let v = c.args.store.now in let w = c.loop-i-2.store in let u = c.quarter.new.store in let g = c.args.parts.now in let h = c.loop-i-2.parts in let e = c.in_err-number-2.ensures in
    record {
      same = e.same ∙ c.loop-i-2.invariant.0;
      gathered = loop_break v w u g h c.args.self (9 + c.loop-i-2.i) _ c.from_residual-in_err-number-2.result c.from_residual-in_err-number-2.ensures.0 c.loop-i-2.invariant.1 e.part;
    }

pub Larger::gather-quarter-requires : goal.Larger::gather-quarter-requires
Larger::gather-quarter-requires t c =
    let l = c.loop-i-2-test.true in
    (omega arith, (nined c.loop-i-2.store c.loop-i-2.parts c.args.self (9 + c.loop-i-2.i) (omega arith) (omega arith) c.loop-i-2.invariant.1.ready, l))

pub Larger::gather-add-requires-in-loop-i-2 : goal.Larger::gather-add-requires-in-loop-i-2
Larger::gather-add-requires-in-loop-i-2 t c = let w = c.loop-i-2.store in let u = c.quarter.new.store in let h = c.loop-i-2.parts in let o = c.in_ok-number-2.ensures.part in let n = 9 + c.loop-i-2.i in let p = c.loop-i-2.invariant.1.ready in let l = c.loop-i-2-test.true in
    let has = part_has w u h c.args.self n c.in_ok-number-2.number (omega arith) p o in
    let deep = has.deep in let top = o.steady.top in let room = p.room in let ends = p.parts.ends in let len = p.parts.len in
    record { good = o.good; square = (has.here, omega arith); room = (omega arith, record { ends = omega arith }) }

pub Larger::gather-loop-i-2-preserved : goal.Larger::gather-loop-i-2-preserved
Larger::gather-loop-i-2-preserved t c =
    let v = c.args.store.now in let w = c.loop-i-2.store in let u = c.quarter.new.store in let z = c.add-in-loop-i-2.new.store in let g = c.args.parts.now in let h = c.loop-i-2.parts in
    let e = c.in_ok-number-2.ensures in let a = c.add-in-loop-i-2.ensures in let next : 9 + c.loop-i-2.i + 1 ≡ 9 + (c.loop-i-2.i + 1) = omega arith in (
      a.same ∙ e.same ∙ c.loop-i-2.invariant.0,
      subst (Loop v z g c.add-in-loop-i-2.new.self c.args.self) next
          (loop_more v w u z g h c.add-in-loop-i-2.new.self c.args.self (9 + c.loop-i-2.i) c.in_ok-number-2.number c.loop-i-2.invariant.1 e.part a.good a.pushed a.more),
    )

pub Larger::gather-returns : goal.Larger::gather-returns
Larger::gather-returns t c =
    let v = c.args.store.now in let w = c.loop-i-2.store in let g = c.args.parts.now in let h = c.loop-i-2.parts in
    let n : 9 + c.loop-i-2.i ≡ 13 = (let a = c.loop-i-2-test.false in let b = c.loop-i-2.auto.i-end in omega arith) in
    record {
      same = c.loop-i-2.invariant.0;
      gathered = loop_end v w g h c.args.self tt (subst (Loop v w g h c.args.self) n c.loop-i-2.invariant.1);
    }

pub Larger::join-intern-requires : goal.Larger::join-intern-requires
Larger::join-intern-requires t c = let w = c.gather.new.store in let h = c.gather.new.parts in let g = c.in_ok-gather.ensures.gathered in
    record {
      good = g.good;
      four = (
        lasts_four w c.args.self _
            (lasts w h c.args.self _ g.all (search rules) (search rules) (search rules) (search rules)),
        let d = c.requires.deep in omega arith,
      );
    }

pub Larger::join-returns : goal.Larger::join-returns
Larger::join-returns t c =
    let v = c.args.store.now in let w = c.gather.new.store in let u = c.intern.new.store in let h = c.gather.new.parts in let e = c.in_ok-gather.ensures in let g = e.gathered in
    let i = c.intern.ensures in let top = i.top in let ends = g.ends in let from = g.from in
    record {
      same = i.same ∙ e.same;
      joined = record {
        good = i.good;
        still = still_trans g.still (still_less (omega arith) i.still);
        from = g.from;
        done = g.done;
        ends = omega arith;
        is = joined_is v w u c.args.parts.now.from c.args.self _ c.intern.result g.still c.requires.parts.root c.requires.power
            (lasts w h c.args.self _ g.all (search rules) (search rules) (search rules) (search rules)) i.is;
      };
    }

pub Larger::work_out-returns : goal.Larger::work_out-returns
Larger::work_out-returns t c =
    let v = c.args.store.now in let w = c.join-target.new.store in let u = c.release.new.store in let j = c.join-target.ensures in let r = c.release.ensures in
    let start : c.start-parts.result.from ≡ v.top = ap (λ (x : Hold). x.from) c.start-parts.ensures in
    let popped = subst (λ (k : ℕ). Popped k w u) (j.joined.from ∙ start) r.popped in
    record {
      same = r.same ∙ j.same;
      leap = record {
        good = r.good;
        steady = record { still = still_trans (subst (λ (k : ℕ). Still k v w) start j.joined.still) popped.still; top = popped.top };
        is = released v w u (suc (suc c.args.self.below)) (suc c.args.self.below) c.args.self.place (whole c.args.self) c.join-target.result popped j.joined.is;
      };
    }

pub Larger::ninth-advance_number-requires : goal.Larger::ninth-advance_number-requires
Larger::ninth-advance_number-requires t c =
    let v = c.args.store.now in let w = c.piece.new.store in let e = c.in_ok-number.ensures in
    (omega arith, piece_loose v w c.args.self c.args.i c.in_ok-number.number c.inner.result c.requires.0 e.good e.steady e.is c.inner.ensures)

pub Larger::ninth-returns : goal.Larger::ninth-returns
Larger::ninth-returns t c =
    let v = c.args.store.now in let w = c.piece.new.store in let u = c.advance_number.new.store in let e = c.in_ok-number.ensures in let a = c.advance_number.ensures in
    record {
      same = a.same ∙ e.same;
      part = piece_leap v w u c.args.self c.args.i c.in_ok-number.number c.inner.result c.advance_number.result c.requires.1 e.steady e.is c.inner.ensures a.leap;
    }

pub Larger::quarter-intern-requires : goal.Larger::quarter-intern-requires
Larger::quarter-intern-requires t c = let v = c.args.store.now in let n = c.requires.0 in let deep = n.rooted.deep in
    record { good = n.rooted.good; four = (four_has v c.args.self c.args.i c.of-four.result n.rooted (fours c.args.store.now c.args.parts.now c.args.self c.args.i c.of-four.result c.requires.0 c.requires.1 (search rules) (search rules) (search rules) (search rules)), omega arith) }

pub Larger::quarter-middle_of-requires : goal.Larger::quarter-middle_of-requires
Larger::quarter-middle_of-requires t c = let v = c.args.store.now in let n = c.requires.0 in let deep = n.rooted.deep in
    record { good = n.rooted.good; four = (four_has v c.args.self c.args.i c.of-four.result n.rooted (fours c.args.store.now c.args.parts.now c.args.self c.args.i c.of-four.result c.requires.0 c.requires.1 (search rules) (search rules) (search rules) (search rules)), omega arith) }

pub Larger::quarter-advance_number-requires : goal.Larger::quarter-advance_number-requires
Larger::quarter-advance_number-requires t c =
    let v = c.args.store.now in let w = c.intern.new.store in let n = c.requires.0 in let e = c.in_ok-number.ensures in (
      omega arith,
      four_loose v w c.args.self c.args.i c.in_ok-number.number c.inner-inner.result c.of-four.result n.rooted e.good (record { still = e.still; top = e.top }) (fours c.args.store.now c.args.parts.now c.args.self c.args.i c.of-four.result c.requires.0 c.requires.1 (search rules) (search rules) (search rules) (search rules)) e.is c.inner-inner.ensures,
    )

pub Larger::quarter-returns-in_ok-number : goal.Larger::quarter-returns-in_ok-number
Larger::quarter-returns-in_ok-number t c =
    let v = c.args.store.now in let w = c.intern.new.store in let u = c.advance_number.new.store in let e = c.in_ok-number.ensures in let a = c.advance_number.ensures in
    record {
      same = a.same ∙ e.same;
      part = four_leap v w u c.args.self c.args.i c.in_ok-number.number c.inner-inner.result c.of-four.result c.advance_number.result c.if-is_longest.ensures c.inner-inner.ensures
          (record { still = e.still; top = e.top }) (fours c.args.store.now c.args.parts.now c.args.self c.args.i c.of-four.result c.requires.0 c.requires.1 (search rules) (search rules) (search rules) (search rules)) e.is a.leap;
    }

pub Larger::quarter-returns-else-is_longest : goal.Larger::quarter-returns-else-is_longest
Larger::quarter-returns-else-is_longest t c =
    let v = c.args.store.now in let w = c.middle_of.new.store in let m = c.middle_of.ensures in
    record { same = m.same; part = four_middle v w c.args.self c.args.i c.of-four.result c.middle_of.result c.if-is_longest.ensures (fours c.args.store.now c.args.parts.now c.args.self c.args.i c.of-four.result c.requires.0 c.requires.1 (search rules) (search rules) (search rules) (search rules)) m.middle }
