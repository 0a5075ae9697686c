use Rattle.cmd_ports.proofs.ports.answer_with_own_ledgers.Given as goal

abbrev pub ghosts-answer_script : goal.ghosts-answer_script
ghosts-answer_script g a = record { names = a.blanks }
