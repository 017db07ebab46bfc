use Rattle.std.proofs.Common.{◌+◌, refl, arith}
use Rattle.lent.specs.Lists.{words_of, stretch_of}
use Rattle.model.proofs.Order.{byte_most}
use Rattle.generation.proofs.Windows.{Taken, window_most, slide_window, slide_fate, slide_few, slide_falls}
use Rattle.generation.proofs.scan.Sweep.slide.Goals as goal

pub overflow_add-neighbours-2 : goal.overflow_add-neighbours-2
overflow_add-neighbours-2 c =
    let b = window_most (words_of c.args.list) (stretch_of c.args.list) c.args.self.now c.requires.0 in let b0 = b.0 in let b1 = b.1 in
    let p = byte_most c.take-above.result in let q = byte_most c.take-here.result in let r = byte_most c.take-below.result in
    omega (arith, c.from.ensures, c.from-2.ensures, c.from-3.ensures)

pub returns : goal.returns
returns c =
    let m = words_of c.args.list in let s = stretch_of c.args.list in let w = c.args.self.now in
    let ta : Taken m s (w.x + 2) w.above c.take-above.new.self c.take-above.result c.from.result =
    record { hit = c.take-above.ensures.hit; cell = c.take-above.ensures.lives; moved = c.take-above.ensures.moved; row = c.take-above.ensures.row; end = c.take-above.ensures.end; at = c.take-above.ensures.at; byte = c.from.ensures } in
    let th : Taken m s (w.x + 2) w.here c.take-here.new.self c.take-here.result c.from-2.result =
    record { hit = c.take-here.ensures.hit; cell = c.take-here.ensures.lives; moved = c.take-here.ensures.moved; row = c.take-here.ensures.row; end = c.take-here.ensures.end; at = c.take-here.ensures.at; byte = c.from-2.ensures } in
    let tb : Taken m s (w.x + 2) w.below c.take-below.new.self c.take-below.result c.from-3.result =
    record { hit = c.take-below.ensures.hit; cell = c.take-below.ensures.lives; moved = c.take-below.ensures.moved; row = c.take-below.ensures.row; end = c.take-below.ensures.end; at = c.take-below.ensures.at; byte = c.from-3.ensures } in
    record {
      window = slide_window m s w _ _ _ _ _ _ _ _ _ c.args.list.listed c.requires.0 c.requires.1 ta th tb;
      x = refl;
      row = c.take-above.ensures.row;
      fate = slide_fate m s w _ _ _ _ _ _ _ _ _ _ c.requires.0 ta th tb c.from-4.ensures;
      few = slide_few m s w _ _ _ _ _ _ _ _ _ _ c.requires.0 ta th tb c.from-4.ensures;
      falls = slide_falls m s w _ _ _ _ _ _ _ _ _ c.requires.0 c.requires.1 ta th tb;
    }
