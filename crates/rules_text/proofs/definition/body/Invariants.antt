-- The tokens so far, and those of the rest of the line, are those of the definition.
use Rattle.std.proofs.Common.{◌≡◌, ◌≤◌, ◌+◌, ◌-◌, ◌++◌, drop, length, map}
use Rattle.rules_text.specs.Names.{expanded, rule_form}
use Rattle.rules_text.specs.RuleTokens.{tokens_from}
use Rattle.rules_text.specs.SeenTokens.{rule_token_seen}
use Rattle.rules_text.specs.inner.SeenReading.{names_seen}
use Rattle.rules_text.proofs.definition.body.Given as goal

abbrev pub invariant-loop-found : goal.invariant-loop-found
invariant-loop-found l = record {
  within : l.from ≤ length l.line;
  few : length l.tokens.items ≤ 4096;
  rest : map rule_token_seen l.tokens.items ++ map (λ it. it.token) (expanded (names_seen l.names) l.room rule_form l.line (l.from + 1) (tokens_from (l.from + 1) 0 (drop l.from l.line)))
      ≡ map (λ it. it.token) (expanded (names_seen l.names) l.allowed rule_form l.line (l.after + 1) (tokens_from (l.after + 1) 0 (drop l.after l.line)));
}

abbrev pub decreases-loop-found : goal.decreases-loop-found
decreases-loop-found l = length l.line - l.from
