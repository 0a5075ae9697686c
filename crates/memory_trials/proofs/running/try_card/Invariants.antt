use Rattle.memory_trials.proofs.running.try_card.Given as goal

abbrev pub ghosts-live : goal.ghosts-live
ghosts-live g a = record { names = a.blanks }
