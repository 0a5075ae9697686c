-- The contracts that were read so far and those of the remaining words are the contracts of the line.
use Rattle.std.proofs.Common.{length}
use Rattle.text_io.specs.Words.{words_of}
use Rattle.text_script.proofs.ContractWords.{ReadsOn}
use Rattle.text_script.proofs.commands.wanted_contracts.Given as goal

abbrev pub invariant-loop-word : goal.invariant-loop-word
invariant-loop-word l = ReadsOn (words_of l.line) l.wanted.items (words_of l.rest)

abbrev pub decreases-loop-word : goal.decreases-loop-word
decreases-loop-word l = length (words_of l.rest)
