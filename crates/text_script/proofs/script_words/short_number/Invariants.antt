-- The remaining digits spell the number of the word after the value so far, which has at most as many digits as were
-- read.
use Rattle.std.proofs.Common.{◌≡◌, ◌<◌, ◌≤◌, ◌-◌, ◌^◌, length}
use Rattle.text_script.specs.ScriptWords.{number_of_digits}
use Rattle.text_script.proofs.NumberLemmas.{number_after}
use Rattle.text_script.proofs.script_words.short_number.Given as goal

abbrev pub invariant-loop-rest : goal.invariant-loop-rest
invariant-loop-rest l =
    (number_after l.value l.rest ≡ number_of_digits l.word) × (length l.rest ≤ length l.word) × (l.value < 10 ^ (length l.word - length l.rest))

abbrev pub decreases-loop-rest : goal.decreases-loop-rest
decreases-loop-rest l = length l.rest
