-- Loop invariant: the tokens so far, and those of the rest of the line, are all.
use Rattle.std.proofs.Common.{◌≡◌, ◌≤◌, ◌+◌, ◌-◌, ◌++◌, drop, length, map}
use Rattle.rules_text.specs.RuleTokens.{tokens_from}
use Rattle.cmd_explain_rules.specs.WordsFound.{word_of, words_found}
use Rattle.cmd_explain_rules.proofs.rule_tokens.words_found.Given as goal

abbrev pub invariant-loop-found : goal.invariant-loop-found
invariant-loop-found l = record {
  within : l.at ≤ length l.line;
  rest : l.words.items ++ map word_of (tokens_from (l.at + 1) 0 (drop l.at l.line)) ≡ words_found l.line;
}

abbrev pub decreases-loop-found : goal.decreases-loop-found
decreases-loop-found l = length l.line - l.at
