-- The tokens of a line of rules, by their columns.
use Rattle.std.specs.Prelude.{ℕ, ◌-◌, List, map, take, drop}
use Rattle.rules_text.specs.RuleTokens.{RuleFound, rule_tokens}
use Rattle.cmd_explain_rules.specs.Parts.{part_of}
use Rattle.cmd_explain_rules.specs.declared.rule_tokens.RuleWord.{RuleWord}

-- Where a token is, and what it is.
abbrev pub word_of : RuleFound → RuleWord
word_of found = record { column = found.column; after = found.after; part = part_of found.token }

-- The tokens of a line.
abbrev pub words_found : List ℕ → List RuleWord
words_found text = map word_of (rule_tokens text)

-- The octets of a token.
abbrev pub rule_word_octets : List ℕ → RuleWord → List ℕ
rule_word_octets text word = take (word.after - word.column) (drop (word.column - 1) text)
