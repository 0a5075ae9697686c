use Rattle.port_card_tests.proofs.tests.changes.a_cell_of_a_connection_that_was_set_up_again_is_released.Given as goal

abbrev pub ghosts-changed : goal.ghosts-changed
ghosts-changed g a = record { names = a.blanks }
