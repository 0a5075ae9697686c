use Rattle.rules_diagrams.proofs.store.Diagrams.+span.Given as goal

abbrev pub decreases-span : goal.decreases-span
decreases-span l = l.bits.width
