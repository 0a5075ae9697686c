use Rattle.port_card_tests.proofs.tests.shapes.fault_of.Given as goal

abbrev pub ghosts-refused : goal.ghosts-refused
ghosts-refused a = record { names = a.blanks }
