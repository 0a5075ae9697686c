use Rattle.std.proofs.Common.{sym, ◌∙◌}
use Rattle.bpf_asm.proofs.cuts.FirstWords.{faulty_no_number, name_no_number, number_cut}
use Rattle.bpf_asm.proofs.operand.after_number.Goals as goal

pub returns-in_err-word : goal.returns-in_err-word
returns-in_err-word c = rw c.from_residual.ensures c.in_err-word.ensures.1

pub returns-in_err-value : goal.returns-in_err-value
returns-in_err-value c = rw c.from_residual-in_err-value.ensures (faulty_no_number c.in_ok-word.word.now c.args.text.now c.in_ok-word.rest.now c.in_ok-word.ensures.0 (sym c.digit.ensures ∙ c.if-digit.true) (sym c.in_err-value.ensures) c.in_ok-word.ensures.1)

pub returns-in_ok-value : goal.returns-in_ok-value
returns-in_ok-value c = number_cut c.in_ok-word.word.now c.args.text.now c.in_ok-word.rest.now c.in_ok-value.value c.in_ok-word.ensures.0 (sym c.digit.ensures ∙ c.if-digit.true) (sym c.in_ok-value.ensures) c.in_ok-word.ensures.1

pub returns-else-digit : goal.returns-else-digit
returns-else-digit c = name_no_number c.in_ok-word.word.now c.args.text.now c.in_ok-word.rest.now c.in_ok-word.ensures.0 (sym c.digit.ensures ∙ c.if-digit.false) c.in_ok-word.ensures.1
