use Rattle.port_card_tests.proofs.tests.many_lines.the_journal_of_each_line_has_the_size_of_the_shape.Given as goal

abbrev pub ghosts-all_filled : goal.ghosts-all_filled
ghosts-all_filled g a = record { names = a.blanks }
