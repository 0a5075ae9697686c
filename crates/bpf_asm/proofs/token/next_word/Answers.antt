use Rattle.std.proofs.Common.{◌≡◌, ◌∷◌, take, drop, sym, ◌∙◌, subst, arith, length-take}
use Rattle.bpf_asm.specs.Tokens.{word_token}
use Rattle.bpf_asm.specs.inner.LineTokens.{line_tokens}
use Rattle.bpf_asm.specs.inner.Reading.{HasNoWord}
use Rattle.bpf_asm.proofs.cuts.FirstWords.{no_word, none_no_word}
use Rattle.bpf_asm.proofs.cuts.Peeks.{line_same}
use Rattle.bpf_asm.proofs.octets.Comments.{line_none, line_word}
use Rattle.bpf_asm.proofs.octets.OctetTests.{is_zero, not_zero}
use Rattle.bpf_asm.proofs.octets.Reading.{some_word}
use Rattle.bpf_asm.proofs.token.next_word.Goals as goal

pub returns-then-is_empty : goal.returns-then-is_empty
returns-then-is_empty c = none_no_word c.args.text.now (sym c.skip_blanks-left.ensures.tokens ∙ line_none c.skip_blanks-left.result.now (is_zero _ c.is_empty.result c.is_empty.ensures c.if-is_empty.true))

pub returns-then-word_octet : goal.returns-then-word_octet
returns-then-word_octet c =
    let left = c.skip_blanks-left.result.now in
    let some = not_zero _ c.is_empty.result c.is_empty.ensures c.if-is_empty.false in
    let begins = sym c.word_octet.ensures ∙ c.if-word_octet.true in
    let first = line_word left c.word_len.result some c.word_len.ensures.within begins c.word_len.ensures.word c.word_len.ensures.longest in
    let front = c.split_at.ensures.front in
    let back = c.split_at.ensures.back in
    let skipped = c.skip_blanks-left.ensures.tokens in
    let parts : word_token (take c.word_len.result left) ∷ line_tokens (drop c.word_len.result left) ≡ word_token c.split_at.result.0.now ∷ line_tokens c.split_at.result.1.now = cc in
    let long = some_word left c.word_len.result begins c.word_len.ensures.longest some in
    let within = c.word_len.ensures.within in
    (rw front (omega (arith, length-take c.word_len.result left)), sym skipped ∙ first ∙ parts)

pub returns-else-word_octet : goal.returns-else-word_octet
returns-else-word_octet c =
    let left = c.skip_blanks-left.result.now in
    let some = not_zero _ c.is_empty.result c.is_empty.ensures c.if-is_empty.false in
    subst (λ tokens. HasNoWord tokens) (line_same c.args.text.now left c.skip_blanks-left.ensures.tokens)
    (no_word left some (sym c.word_octet.ensures ∙ c.if-word_octet.false) (c.skip_blanks-left.ensures.begins some))
