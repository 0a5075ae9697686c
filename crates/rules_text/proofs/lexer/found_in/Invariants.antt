-- The rest of the table has the same token as the whole table.
use Rattle.std.proofs.Common.{◌≡◌, map, length}
use Rattle.rules_text.specs.RuleTokens.{row_token}
use Rattle.rules_text.specs.SeenTokens.{rule_token_seen}
use Rattle.rules_text.proofs.lexer.found_in.Given as goal

abbrev pub invariant-loop-left : goal.invariant-loop-left
invariant-loop-left l = row_token l.octets (map (λ row. (row.0.now, rule_token_seen row.1)) l.left) ≡ row_token l.octets (map (λ row. (row.0.now, rule_token_seen row.1)) l.rows)

abbrev pub decreases-loop-left : goal.decreases-loop-left
decreases-loop-left l = length l.left
