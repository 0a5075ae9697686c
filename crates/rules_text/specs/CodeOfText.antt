-- The code that is defined for a text of rules.
use Rattle.std.specs.Prelude.{◌≡◌, ℕ, List}
use Rattle.bpf_code.specs.declared.instr.Instr.{Instr}
use Rattle.rules_cells.specs.PlainOf.{ArePlainLines}
use Rattle.rules_cells.specs.declared.rules.Rules.{Rules}
use Rattle.rules_code.specs.LineCode.{lines_code}
use Rattle.rules_code.specs.declared.lines.Line.{Line}
use Rattle.rules_text.specs.RulesInMemory.{HasRules}

-- The text has rules, and this is the code of the lines of tests on octets that they become (`ArePlainLines`).
pub record IsCodeOfText (octets : List ℕ) (code : List Instr) : Type 0 where
  pub rules : Rules
  pub read : HasRules octets rules
  pub lines : List Line
  pub plain : ArePlainLines rules.side rules.lines.items lines
  pub code_is : code ≡ lines_code lines rules.otherwise
