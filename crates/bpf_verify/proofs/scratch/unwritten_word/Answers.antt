use Rattle.std.proofs.Common.{◌<◌, arith}
use Rattle.bpf_verify.proofs.scratch.unwritten_word.Goals as goal
use Rattle.bpf_verify.proofs.scratch.unwritten_word.Goals.{In-Some}

-- The word that the instruction reads is one of the sixteen.
word_within : (c : In-Some) → c.in-Some.word < 16
word_within c = c.requires c.in-Some.word ((c.word_read.ensures c.in-Some.word).1 c.in-Some.is)

pub overflow_cast-word : goal.overflow_cast-word
overflow_cast-word c = omega (arith, word_within c)

pub overflow_shr-mask : goal.overflow_shr-mask
overflow_shr-mask c = word_within c
