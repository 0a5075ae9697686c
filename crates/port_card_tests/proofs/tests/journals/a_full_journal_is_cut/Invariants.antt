use Rattle.port_card_tests.proofs.tests.journals.a_full_journal_is_cut.Given as goal

abbrev pub ghosts-filled : goal.ghosts-filled
ghosts-filled g a = record { names = a.blanks }
