-- What is left after the rest of the line is what is left after the whole line.
use Rattle.std.proofs.Common.{◌≡◌, ◌≤◌, ◌+◌, ◌-◌, drop, length}
use Rattle.rules_text.specs.Names.{room_left}
use Rattle.rules_text.specs.RuleTokens.{rule_tokens, tokens_from}
use Rattle.rules_text.specs.inner.SeenReading.{names_seen}
use Rattle.rules_text.proofs.statement_reader.room_after_line.Given as goal

abbrev pub invariant-loop-found : goal.invariant-loop-found
invariant-loop-found l = record {
  within : l.from ≤ length l.line;
  rest : room_left (names_seen l.names) l.room l.line (tokens_from (l.from + 1) 0 (drop l.from l.line)) ≡ room_left (names_seen l.names) l.allowed l.line (rule_tokens l.line);
}

abbrev pub decreases-loop-found : goal.decreases-loop-found
decreases-loop-found l = length l.line - l.from
