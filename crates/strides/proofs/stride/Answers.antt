use Rattle.std.proofs.Common.{◌∙◌}
use Rattle.strides.proofs.Steps.{stride_padding, stride_leap}
use Rattle.strides.proofs.stride.Goals as goal

pub pad_and_leap-requires : goal.pad_and_leap-requires
pad_and_leap-requires c = stride_padding c.args.store.now c.pad.new.store c.args.leap c.args.below c.args.place c.in_ok-once.once c.requires c.in_ok-once.ensures.padded

pub returns : goal.returns
returns c =
    let e = c.in_ok-once.ensures in let a = c.pad_and_leap.ensures in
    record {
      same = a.same ∙ e.same;
      stride = stride_leap c.args.store.now c.pad.new.store c.pad_and_leap.new.store c.args.leap c.args.below c.args.place c.in_ok-once.once c.pad_and_leap.result
          e.padded a.leap;
    }
