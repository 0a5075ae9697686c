use Rattle.port_card_tests.proofs.tests.reloads.no_cell_is_stale_while_the_desk_reloads_and_retires.Given as goal

abbrev pub ghosts-chased : goal.ghosts-chased
ghosts-chased g a = record { names = a.blanks }
