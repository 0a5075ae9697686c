-- The words so far are shown.
use Rattle.std.proofs.Common.{◌-◌, map}
use Rattle.std.specs.String.{string_bytes}
use Rattle.text_command_line.specs.ShownWords.{most_words}
use Rattle.text_command_line.proofs.WordLemmas.{ReadsOn}
use Rattle.text_command_line.proofs.words.words_after_name.Given as goal

abbrev pub invariant-loop-number : goal.invariant-loop-number
invariant-loop-number g l = g.C.CommandLine.is_known → ReadsOn (g.C.CommandLine.words l.line) (map string_bytes l.words.items) l.number

abbrev pub decreases-loop-number : goal.decreases-loop-number
decreases-loop-number g l = most_words - l.number
