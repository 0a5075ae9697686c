use Rattle.rules_diagrams.proofs.word.+spelled.Given as goal

abbrev pub decreases-spelled : goal.decreases-spelled
decreases-spelled l = l.many
