-- The fault lines of texts of rules.
use Rattle.std.specs.Prelude.{ℕ, List, ◌++◌, codes, decimal}
use Rattle.rules_text.specs.declared.fault.RuleFault.{RuleFault}
use Rattle.rules_text.specs.declared.fault.RuleFaultKind.{RuleFaultKind}
use Rattle.rules_text.specs.declared.fault.RuleFaultKind.TheVariants as kind
use Rattle.text_words.specs.FaultLines.{line}

-- The number and the name of a fault of a text. NoMemory is never printed.
abbrev pub rule_name : RuleFaultKind → List ℕ
rule_name kind.BadLine = codes "1 BadLine"
rule_name kind.BadNumber = codes "2 BadNumber"
rule_name kind.TooLarge = codes "3 TooLarge"
rule_name kind.OutsideCell = codes "4 OutsideCell"
rule_name kind.AfterOtherwise = codes "5 AfterOtherwise"
rule_name kind.Unbalanced = codes "6 Unbalanced"
rule_name kind.TooDeep = codes "7 TooDeep"
rule_name kind.TooLong = codes "8 TooLong"
rule_name kind.NoMemory = codes "9 NoMemory"
rule_name kind.UnknownName = codes "10 UnknownName"
rule_name kind.NameTaken = codes "11 NameTaken"

-- A blank, a line and a column, which end the answer's line.
abbrev pub place_text : ℕ → ℕ → List ℕ
place_text at column = line (codes " " ++ decimal at ++ codes " " ++ decimal column)

-- The answer to a text with a fault: its number and name, line and column.
abbrev pub rule_fault : RuleFault → List ℕ
rule_fault fault = codes "fault rules " ++ rule_name fault.kind ++ place_text fault.line fault.column
