use Rattle.bpf_asm.proofs.octets.Comments.{line_blank_more}
use Rattle.std.proofs.Common.{sym, ◌∙◌, arith}
use Rattle.bpf_asm.proofs.token.skip_blanks.Goals as goal

pub loop-at-preserved : goal.loop-at-preserved
loop-at-preserved c = line_blank_more c.args.text.now c.loop-at.at (omega arith) c.loop-at.invariant (sym c.blank.ensures ∙ c.if-not-blank.false)
