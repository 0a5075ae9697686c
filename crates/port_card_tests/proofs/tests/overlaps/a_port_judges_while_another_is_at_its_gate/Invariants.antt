use Rattle.port_card_tests.proofs.tests.overlaps.a_port_judges_while_another_is_at_its_gate.Given as goal

abbrev pub ghosts-overlapping : goal.ghosts-overlapping
ghosts-overlapping g a = record { names = a.blanks }
