-- The rest of the tokens, read on from here, gives what all of them give.
use Rattle.std.proofs.Common.{◌≡◌, map, length}
use Rattle.rules_text.specs.SeenTokens.{rule_token_seen}
use Rattle.rules_text.specs.inner.SeenReading.{context_seen, reading_seen}
use Rattle.rules_text.specs.inner.TokensRead.{all_tokens_read}
use Rattle.rules_text.proofs.line_reader.LineReader.read_all.Given as goal

abbrev pub invariant-loop-left : goal.invariant-loop-left
invariant-loop-left l =
    all_tokens_read (context_seen l.context) l.column (reading_seen l.self) (map rule_token_seen l.left)
    ≡ all_tokens_read (context_seen l.context) l.column (reading_seen l.fn.self) (map rule_token_seen l.tokens)

abbrev pub decreases-loop-left : goal.decreases-loop-left
decreases-loop-left l = length l.left
