use Rattle.port_card_tests.proofs.tests.two_ports.two_ports_police_at_the_same_time.Given as goal

abbrev pub ghosts-policed_at_both : goal.ghosts-policed_at_both
ghosts-policed_at_both g a = record { names = a.blanks }
