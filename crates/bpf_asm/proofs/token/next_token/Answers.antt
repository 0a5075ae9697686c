use Rattle.std.proofs.Common.{◌≡◌, ◌∷◌, take, drop, sym, ◌∙◌}
use Rattle.std.proofs.lemmas.List.{take_rest}
use Rattle.bpf_asm.specs.inner.Seen.{token_seen}
use Rattle.bpf_asm.specs.Tokens.{word_token}
use Rattle.bpf_asm.specs.inner.LineTokens.{line_tokens}
use Rattle.bpf_asm.proofs.octets.Comments.{line_comment, line_mark, line_none, line_word}
use Rattle.bpf_asm.proofs.octets.OctetTests.{is_zero, not_zero}
use Rattle.bpf_asm.proofs.token.next_token.Goals as goal

pub returns-then-is_empty-clause-tokens : goal.returns-then-is_empty-clause-tokens
returns-then-is_empty-clause-tokens c = sym c.skip_blanks-text.ensures.tokens ∙ line_none c.skip_blanks-text.result.now (is_zero _ c.is_empty.result c.is_empty.ensures c.if-is_empty.true)

pub returns-then-word_octet-clause-tokens : goal.returns-then-word_octet-clause-tokens
returns-then-word_octet-clause-tokens c =
    let text = c.skip_blanks-text.result.now in
    let first = line_word text c.word_len.result (not_zero _ c.is_empty.result c.is_empty.ensures c.if-is_empty.false) c.word_len.ensures.within (sym c.word_octet.ensures ∙ c.if-word_octet.true) c.word_len.ensures.word c.word_len.ensures.longest in
    let front = c.split_at.ensures.front in
    let back = c.split_at.ensures.back in
    let seen = c.token_of_word.ensures in
    let skipped = c.skip_blanks-text.ensures.tokens in
    let parts : word_token (take c.word_len.result text) ∷ line_tokens (drop c.word_len.result text) ≡ token_seen c.token_of_word.result ∷ line_tokens c.split_at.result.1.now = cc in
    sym skipped ∙ first ∙ parts

pub returns-then-begins_comment-clause-tokens : goal.returns-then-begins_comment-clause-tokens
returns-then-begins_comment-clause-tokens c =
    let text = c.skip_blanks-text.result.now in
    let some = not_zero _ c.is_empty.result c.is_empty.ensures c.if-is_empty.false in
    sym c.skip_blanks-text.ensures.tokens ∙ line_comment text some (sym c.begins_comment.ensures ∙ c.if-begins_comment.true)

pub returns-clause-tokens : goal.returns-clause-tokens
returns-clause-tokens c =
    let text = c.skip_blanks-text.result.now in
    let some = not_zero _ c.is_empty.result c.is_empty.ensures c.if-is_empty.false in
    rw take_rest (sym c.skip_blanks-text.ensures.tokens ∙ line_mark text some (sym c.word_octet.ensures ∙ c.if-word_octet.false) (sym c.begins_comment.ensures ∙ c.if-begins_comment.false) (c.skip_blanks-text.ensures.begins some))
