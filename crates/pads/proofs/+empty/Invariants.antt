use Rattle.pads.proofs.+empty.Given as goal

abbrev pub decreases-empty : goal.decreases-empty
decreases-empty l = l.depth
