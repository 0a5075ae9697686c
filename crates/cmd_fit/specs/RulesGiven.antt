-- The rules of `fit`, by a text that is given.
use Rattle.std.specs.Prelude.{ℕ, List, ◌++◌, codes, Option, Some, None, Result, Ok, Err}
use Rattle.cmd_rules.specs.RuleFaults.{rule_fault}
use Rattle.cmd_rules.specs.RulesAnswers.{most_rules_octets}
use Rattle.rules_text.specs.RulesRead.{RulesRead}
use Rattle.rules_text.specs.TextOfRules.{rules_in}
use Rattle.rules_text.specs.declared.fault.RuleFault.{RuleFault}
use Rattle.text_io.specs.Gathered.{gathered}
use Rattle.text_words.specs.FaultLines.{too_long}

-- What precedes the fault line of the rules.
abbrev pub rules_mark : List ℕ
rules_mark = codes "rules: "

-- The rules, or the answer to their fault.
abbrev pub read_from : Result RulesRead RuleFault → Result (Option RulesRead) (List ℕ)
read_from (Ok rules) = Ok (Some rules)
read_from (Err fault) = Err (rules_mark ++ rule_fault fault)

-- The rules of a text that was found, or the answer to their fault; otherwise the text is over the limit.
abbrev pub read_found : Option (List ℕ) → Result (Option RulesRead) (List ℕ)
read_found None = Err (rules_mark ++ too_long)
read_found (Some text) = read_from (rules_in text)

-- The rules in the octets of a file, if one is given, or the answer to their fault.
abbrev pub rules_given : Option (List ℕ) → Result (Option RulesRead) (List ℕ)
rules_given None = Ok None
rules_given (Some octets) = read_found (gathered most_rules_octets octets)
