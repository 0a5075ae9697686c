use Rattle.memory_trials.proofs.running.make_alone.Given as goal

abbrev pub ghosts-make_card : goal.ghosts-make_card
ghosts-make_card a = record { names = a.blanks }
