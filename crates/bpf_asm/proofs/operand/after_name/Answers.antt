use Rattle.std.proofs.Common.{sym, ◌∙◌}
use Rattle.bpf_asm.proofs.cuts.FirstWords.{digit_no_name, name_cut}
use Rattle.bpf_asm.proofs.operand.after_name.Goals as goal

pub returns-in_err-word : goal.returns-in_err-word
returns-in_err-word c = rw c.from_residual.ensures c.in_err-word.ensures.0

pub returns-then-digit : goal.returns-then-digit
returns-then-digit c = digit_no_name c.in_ok-word.word.now c.args.text.now c.in_ok-word.rest.now c.in_ok-word.ensures.0 (sym c.digit.ensures ∙ c.if-digit.true) c.in_ok-word.ensures.1

pub returns-else-digit : goal.returns-else-digit
returns-else-digit c = name_cut c.in_ok-word.word.now c.args.text.now c.in_ok-word.rest.now c.in_ok-word.ensures.0 (sym c.digit.ensures ∙ c.if-digit.false) c.in_ok-word.ensures.1
