use Rattle.std.proofs.Common.{◌<◌, ◌≤◌, ◌+◌, length, drop, ◌∙◌, arith, length-drop}
use Rattle.std.proofs.lemmas.List.{take_rest}
use Rattle.rules_text.specs.inner.SeenCuts.{cut_seen}
use Rattle.rules_text.proofs.TokenSteps.{token_more, tokens_none}
use Rattle.rules_text.proofs.lexer.next_token.Goals as goal

pub returns-then-start-line-clause-tokens : goal.returns-then-start-line-clause-tokens
returns-then-start-line-clause-tokens c =
    let start = c.after_blanks-start.result in
    c.after_blanks-start.ensures.tokens ∙ tokens_none (start + 1) (drop start c.args.line.now) (omega (arith, length-drop start c.args.line.now))

pub returns-clause-tokens : goal.returns-clause-tokens
returns-clause-tokens c =
    let start = c.after_blanks-start.result in
    let some : start < length c.args.line.now = omega arith in
    let stops = c.after_blanks-start.ensures.stops some in
    let cut = c.first_token-first.result in
    let within : cut.size ≤ length (drop start c.args.line.now) = rw take_rest at c.first_token-first.ensures.within in
    c.after_blanks-start.ensures.tokens
    ∙ token_more c.args.line.now start (cut_seen cut) some stops.0 stops.1 (rw take_rest at c.first_token-first.ensures.seen) c.first_token-first.ensures.some within
