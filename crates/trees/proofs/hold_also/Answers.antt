use Rattle.trees.proofs.hold_also.Goals as goal

pub add-requires-clause-square : goal.add-requires-clause-square
add-requires-clause-square c = c.requires.made c.in-Ok.number c.in-Ok.is
