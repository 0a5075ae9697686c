-- Loop invariant: the answers with what is left are the answers of before with the whole sentence.
use Rattle.std.proofs.Common.{◌≡◌, ◌++◌, length}
use Rattle.cmd_explain.specs.FaultSentences.{with_numbers}
use Rattle.cmd_explain.proofs.fault_sentences.add_filled.Given as goal

abbrev pub invariant-loop-left : goal.invariant-loop-left
invariant-loop-left l = l.answers.items ++ with_numbers l.first l.second l.left ≡ l.fn.answers.items ++ with_numbers l.first l.second l.sentence

abbrev pub decreases-loop-left : goal.decreases-loop-left
decreases-loop-left l = length l.left
