-- Loop invariant: the rows so far have words that aren't near, or don't come at the place.
use Rattle.std.proofs.Common.{◌≡◌, length, map}
use Rattle.cmd_explain_rules.specs.MeantWords.{near_word}
use Rattle.rules_text.specs.SeenTokens.{rule_token_seen}
use Rattle.cmd_explain_rules.proofs.meant_words.near_among.Given as goal

abbrev pub invariant-loop-left : goal.invariant-loop-left
invariant-loop-left l = near_word l.place l.word (map (λ row. (row.0.now, rule_token_seen row.1)) l.left) ≡ near_word l.place l.word (map (λ row. (row.0.now, rule_token_seen row.1)) l.rows)

abbrev pub decreases-loop-left : goal.decreases-loop-left
decreases-loop-left l = length l.left
