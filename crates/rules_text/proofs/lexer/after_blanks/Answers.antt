use Rattle.std.proofs.Common.{◌≡◌, length, ◌∙◌, sym, arith}
use Rattle.rules_text.proofs.TokenSteps.{skipped_end}
use Rattle.rules_text.proofs.lexer.after_blanks.Goals as goal

pub returns-clause-tokens : goal.returns-clause-tokens
returns-clause-tokens c =
    let whole : c.loop-at.at ≡ length c.args.line.now = omega arith in
    rw (sym whole) (c.loop-at.invariant ∙ skipped_end c.args.line.now c.loop-at.at c.loop-at.comment (omega arith))
