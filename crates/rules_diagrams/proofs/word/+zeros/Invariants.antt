use Rattle.rules_diagrams.proofs.word.+zeros.Given as goal

abbrev pub decreases-zeros : goal.decreases-zeros
decreases-zeros l = l.many
