use Rattle.soups.proofs.tests.Soup.sow.Given as goal

abbrev pub invariant-loop-x : goal.invariant-loop-x
invariant-loop-x g l = g.F.Field.good l.field l.mem

abbrev pub invariant-loop-y : goal.invariant-loop-y
invariant-loop-y g l = g.F.Field.good l.field l.mem
