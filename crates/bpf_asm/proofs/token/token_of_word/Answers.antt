use Rattle.std.proofs.Common.{sym, ◌∙◌}
use Rattle.bpf_asm.proofs.octets.Reading.{faulty_word, name_word, number_word}
use Rattle.bpf_asm.proofs.token.token_of_word.Goals as goal

pub returns-in-Some : goal.returns-in-Some
returns-in-Some c = number_word c.args.word.now c.in-Some.value c.requires (sym c.digit.ensures ∙ c.if-digit.true) (sym c.number.ensures ∙ c.in-Some.is)

pub returns-in-None : goal.returns-in-None
returns-in-None c = faulty_word c.args.word.now c.requires (sym c.digit.ensures ∙ c.if-digit.true) (sym c.number.ensures ∙ c.in-None.is)

pub returns-else-digit : goal.returns-else-digit
returns-else-digit c = name_word c.args.word.now c.requires (sym c.digit.ensures ∙ c.if-digit.false)
