use Rattle.port_card_tests.proofs.tests.changes.a_retirement_waits_for_the_cells_that_were_picked.Given as goal

abbrev pub ghosts-waiting : goal.ghosts-waiting
ghosts-waiting g a = record { names = a.blanks }
