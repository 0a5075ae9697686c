use Rattle.std.proofs.Common.{◌+◌, Bool, drop, sym, ap, ◌∙◌}
use Rattle.rules_text.specs.RuleTokens.{tokens_from}
use Rattle.rules_text.specs.inner.SeenLines.{skipped}
use Rattle.rules_text.proofs.TokenSteps.{comment_begun, comment_more, separated}
use Rattle.rules_text.proofs.lexer.passed.Goals as goal

pub returns-then-comment : goal.returns-then-comment
returns-then-comment c =
    let line = c.args.line.now in
    let at = c.args.at in
    rw c.if-comment.true (comment_more line at c.requires
    ∙ ap (λ (next : Bool). tokens_from (at + 1 + 1) (skipped next (drop (at + 1) line)) (drop (at + 1) line)) (sym c.goes_on.ensures))

pub returns-then-separates : goal.returns-then-separates
returns-then-separates c = rw c.if-comment.false (separated c.args.line.now c.args.at c.requires (sym c.separates.ensures ∙ c.if-separates.true))

pub returns-then-begins_comment : goal.returns-then-begins_comment
returns-then-begins_comment c =
    rw c.if-comment.false (comment_begun c.args.line.now c.args.at c.requires (sym c.separates.ensures ∙ c.if-separates.false) (sym c.begins_comment.ensures ∙ c.if-begins_comment.true))
