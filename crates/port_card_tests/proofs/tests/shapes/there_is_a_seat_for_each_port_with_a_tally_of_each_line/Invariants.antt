use Rattle.port_card_tests.proofs.tests.shapes.there_is_a_seat_for_each_port_with_a_tally_of_each_line.Given as goal

abbrev pub ghosts-seated : goal.ghosts-seated
ghosts-seated g a = record { names = a.blanks }
