-- The remaining digits spell the number of the word after the value so far.
use Rattle.std.proofs.Common.{◌≡◌, ◌≤◌, length}
use Rattle.text_script.specs.ScriptWords.{most_number, number_of_digits}
use Rattle.text_script.proofs.NumberLemmas.{number_after}
use Rattle.text_script.proofs.script_words.long_number.Given as goal

abbrev pub invariant-loop-rest : goal.invariant-loop-rest
invariant-loop-rest l = (number_after l.value l.rest ≡ number_of_digits l.word) × (l.value ≤ most_number)

abbrev pub decreases-loop-rest : goal.decreases-loop-rest
decreases-loop-rest l = length l.rest
