use Rattle.rules_diagrams.proofs.word.+constant.Given as goal

abbrev pub decreases-constant : goal.decreases-constant
decreases-constant l = l.width
