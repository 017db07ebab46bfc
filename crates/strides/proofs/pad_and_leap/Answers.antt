use Rattle.std.proofs.Common.{◌+◌, ◌∙◌, arith}
use Rattle.strides.proofs.Steps.{padded_loose, padded_leap}
use Rattle.strides.proofs.pad_and_leap.Goals as goal

pub advance_number-requires : goal.advance_number-requires
advance_number-requires c = padded_loose c.args.store.now c.pad_number.new.store c.args.leap c.args.below c.args.number c.in_ok-padded.padded (c.args.below + 2) (omega arith) c.requires
    c.in_ok-padded.ensures.padded

pub returns : goal.returns
returns c =
    let e = c.in_ok-padded.ensures in let a = c.advance_number.ensures in
    record {
      same = a.same ∙ e.same;
      leap = padded_leap c.args.store.now c.pad_number.new.store c.advance_number.new.store c.args.leap c.args.below c.args.number c.in_ok-padded.padded
          (c.args.below + 2) c.advance_number.result (omega arith) e.padded a.leap;
    }
