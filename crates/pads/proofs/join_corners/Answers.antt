use Rattle.std.proofs.Common.{◌≡◌, ℕ, suc, ◌+◌, ◌∙◌, subst, arith, rules}
use Rattle.holds.proofs.Chain.{still_less, still_trans}
use Rattle.pieces.specs.Gathering.{Gathered}
use Rattle.pieces.proofs.Steady.{underway_more}
use Rattle.pads.specs.Padding.{corner_of}
use Rattle.pads.proofs.Corners.{way_framed, way_break, corner_has, four_corners, corners_four, corners_padded}
use Rattle.pads.proofs.join_corners.Goals as goal

pub returns-in_err-number : goal.returns-in_err-number
returns-in_err-number c =
    let e = c.in_err-number.ensures in
    record {
      same = e.same ∙ c.loop-i.invariant.0;
      joined = way_break c.args.store.now c.loop-i.store c.corner.new.store c.args.corners.now c.loop-i.corners c.args.below c.args.place c.loop-i.i _ c.from_residual.result
          c.from_residual.ensures.0 c.loop-i.invariant.1 e.corner;
    }

pub add-requires : goal.add-requires
add-requires c = let v = c.args.store.now in let w = c.loop-i.store in let u = c.corner.new.store in let o = c.in_ok-number.ensures.corner in let p = c.loop-i.invariant.1 in
    let f = way_framed v w c.args.corners.now c.loop-i.corners c.args.below c.args.place c.loop-i.i c.requires.framed.deep p in
    let has = corner_has w u c.args.below c.args.place c.loop-i.i c.in_ok-number.number f o in
    let deep = has.deep in let top = o.steady.top in let ends = p.parts.ends in let len = p.parts.len in let from = p.from in let l = c.loop-i-test.true in let room = c.requires.room in let first = c.requires.parts.ends in
    record { good = o.good; square = (has.here, omega arith); room = (omega arith, record { ends = omega arith }) }

pub loop-i-preserved : goal.loop-i-preserved
loop-i-preserved c =
    let e = c.in_ok-number.ensures in let a = c.add.ensures in (
      a.same ∙ e.same ∙ c.loop-i.invariant.0,
      underway_more c.args.store.now c.loop-i.store c.corner.new.store c.add.new.store c.args.corners.now c.loop-i.corners c.add.new.self c.args.place (suc c.args.below)
          (suc c.args.below) c.loop-i.i c.in_ok-number.number (corner_of c.args.below) c.loop-i.invariant.1 e.corner.steady e.corner.is a.good a.pushed a.more,
    )

pub intern-requires : goal.intern-requires
intern-requires c = let w = c.loop-i.store in let h = c.loop-i.corners in let p = c.loop-i.invariant.1 in let d = c.requires.framed.deep in
    let n : c.loop-i.i ≡ 4 = (let a = c.loop-i-test.false in let b = c.loop-i.auto.i-end in omega arith) in
    let g = subst (λ (n : ℕ). Gathered w h c.args.place (suc c.args.below) (suc c.args.below) n (corner_of c.args.below)) n p.parts in
    record {
      good = p.good;
      four = (
        corners_four w c.args.below c.args.place (c.args.below + 1) _ (omega arith)
            (four_corners w h c.args.below c.args.place _ g (search rules) (search rules) (search rules) (search rules)),
        omega arith,
      );
    }

pub returns : goal.returns
returns c =
    let v = c.args.store.now in let w = c.loop-i.store in let u = c.intern.new.store in let h = c.loop-i.corners in let p = c.loop-i.invariant.1 in let i = c.intern.ensures in
    let n : c.loop-i.i ≡ 4 = (let a = c.loop-i-test.false in let b = c.loop-i.auto.i-end in omega arith) in
    let g = subst (λ (n : ℕ). Gathered w h c.args.place (suc c.args.below) (suc c.args.below) n (corner_of c.args.below)) n p.parts in
    let ends = g.ends in let len = g.len in let from = p.from in let top = i.top in
    record {
      same = i.same ∙ c.loop-i.invariant.0;
      joined = record {
        good = i.good;
        still = still_trans p.still (still_less (omega arith) i.still);
        from = p.from;
        done = p.done;
        ends = omega arith;
        is = corners_padded v w u c.args.corners.now.from c.args.below c.args.place (c.args.below + 1) _ c.intern.result p.still c.requires.parts.root (omega arith)
            (four_corners w h c.args.below c.args.place _ g (search rules) (search rules) (search rules) (search rules)) i.is;
      };
    }
