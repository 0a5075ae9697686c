use Rattle.port_card_tests.proofs.tests.reloads.a_reload_returns_the_earlier_program_and_keeps_the_journal.Given as goal

abbrev pub ghosts-reloaded : goal.ghosts-reloaded
ghosts-reloaded g a = record { names = a.blanks }
