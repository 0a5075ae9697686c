-- Loop invariant: the words so far, and those of the rest, are all.
use Rattle.std.proofs.Common.{◌≡◌, ◌≤◌, ◌+◌, ◌++◌, false, length}
use Rattle.cmd_explain_script.specs.FoundWords.{words_from}
use Rattle.cmd_explain_script.proofs.found_words.words_of.Given as goal

abbrev pub invariant-loop-left : goal.invariant-loop-left
invariant-loop-left l = record {
  within : l.at + length l.left ≤ length l.line;
  rest : l.words.items ++ words_from (l.at + 1) l.inside l.left ≡ words_from 1 false l.line;
}

abbrev pub decreases-loop-left : goal.decreases-loop-left
decreases-loop-left l = length l.left
