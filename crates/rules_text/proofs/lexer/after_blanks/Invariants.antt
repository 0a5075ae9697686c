-- The tokens from here on, after the rest of a comment, are those from the first column on.
use Rattle.std.proofs.Common.{◌≡◌, ◌+◌, drop}
use Rattle.rules_text.specs.RuleTokens.{tokens_from}
use Rattle.rules_text.specs.inner.SeenLines.{skipped}
use Rattle.rules_text.proofs.lexer.after_blanks.Given as goal

abbrev pub invariant-loop-at : goal.invariant-loop-at
invariant-loop-at l = tokens_from (l.from + 1) 0 (drop l.from l.line) ≡ tokens_from (l.at + 1) (skipped l.comment (drop l.at l.line)) (drop l.at l.line)
