use Rattle.std.proofs.Common.{◌≡◌, true, take}
use Rattle.bpf_asm.specs.inner.WordRuns.{all_word}
use Rattle.bpf_asm.proofs.token.word_len.Given as goal

abbrev pub invariant-loop-at : goal.invariant-loop-at
invariant-loop-at l = all_word (take l.at l.text) ≡ true
