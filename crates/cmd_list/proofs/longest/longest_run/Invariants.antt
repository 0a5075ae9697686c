-- Loop invariant: the table has the longest runs from the places passed so far.
use Rattle.cmd_list.proofs.LongestFound.{AreLongest}
use Rattle.cmd_list.proofs.longest.longest_run.Given as goal

abbrev pub invariant-loop-place : goal.invariant-loop-place
invariant-loop-place l = AreLongest l.code l.longest l.place
