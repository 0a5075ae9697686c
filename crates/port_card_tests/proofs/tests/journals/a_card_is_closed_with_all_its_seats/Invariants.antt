use Rattle.port_card_tests.proofs.tests.journals.a_card_is_closed_with_all_its_seats.Given as goal

abbrev pub ghosts-missed : goal.ghosts-missed
ghosts-missed g a = record { names = a.blanks }
