use Rattle.port_card_tests.proofs.tests.changes.a_cell_is_judged_by_the_program_that_was_picked.Given as goal

abbrev pub ghosts-changed : goal.ghosts-changed
ghosts-changed g a = record { names = a.blanks }
