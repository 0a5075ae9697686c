use Rattle.port_card_tests.proofs.tests.journals.lines_count_what_seats_do.Given as goal

abbrev pub ghosts-policed : goal.ghosts-policed
ghosts-policed g a = record { names = a.blanks }
