use Rattle.rules_diagrams.proofs.word.+shifted_left.Given as goal

abbrev pub decreases-shifted_left : goal.decreases-shifted_left
decreases-shifted_left l = l.width
