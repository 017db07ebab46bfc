use Rattle.std.proofs.Common.{◌∙◌}
use Rattle.lent.specs.Lists.{words_of, stretch_of}
use Rattle.measure.proofs.Compare.{same_pairs}
use Rattle.measure.proofs.same.Goals as goal

pub returns : goal.returns
returns c =
    c.eq.ensures ∙ same_pairs (words_of c.args.a) (words_of c.args.b) (stretch_of c.args.a) (stretch_of c.args.b) _ _ c.entries.ensures c.entries-2.ensures
