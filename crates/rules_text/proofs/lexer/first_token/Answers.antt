use Rattle.std.proofs.Common.{sym, ◌∙◌, arith, length-take}
use Rattle.rules_text.proofs.TokenSteps.{letters_some}
use Rattle.rules_text.proofs.lexer.first_token.Goals as goal

pub word_token-requires : goal.word_token-requires
word_token-requires c =
    let some = letters_some c.args.octets.now c.requires (sym c.word_octet.ensures ∙ c.if-not-word_octet.false) in
    omega (arith, some, length-take c.word_len-size.result c.args.octets.now)

pub returns-clause-some : goal.returns-clause-some
returns-clause-some c =
    let some = letters_some c.args.octets.now c.requires (sym c.word_octet.ensures ∙ c.if-not-word_octet.false) in
    omega (arith, some)
