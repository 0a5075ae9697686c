-- Loop invariant: the answers with those to what is left are the answers of before with those to the whole text.
use Rattle.std.proofs.Common.{◌≡◌, ◌++◌, length}
use Rattle.cmd_explain.specs.FaultSentences.{faults_text}
use Rattle.cmd_explain.proofs.fault_sentences.add_explained_lines.Given as goal

abbrev pub invariant-loop-content : goal.invariant-loop-content
invariant-loop-content l = l.answers.items ++ faults_text l.left ≡ l.fn.answers.items ++ faults_text l.text

abbrev pub decreases-loop-content : goal.decreases-loop-content
decreases-loop-content l = length l.left
