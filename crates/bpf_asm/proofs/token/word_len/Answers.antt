use Rattle.bpf_asm.proofs.octets.Reading.{word_more}
use Rattle.std.proofs.Common.{sym, ◌∙◌, arith}
use Rattle.bpf_asm.proofs.token.word_len.Goals as goal

pub loop-at-preserved : goal.loop-at-preserved
loop-at-preserved c = word_more c.args.text.now c.loop-at.at (omega arith) c.loop-at.invariant (sym c.word_octet.ensures ∙ c.if-not-word_octet.false)
