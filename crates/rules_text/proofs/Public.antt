-- Lemmas for proofs of other crates.
use Rattle.std.proofs.Common.{◌≡◌, ℕ, List}
use Rattle.bpf_code.specs.declared.instr.Instr.{Instr}
use Rattle.rules_text.specs.CodeOfText.{IsCodeOfText}
use Rattle.rules_text.specs.RulesInMemory.{placed_rules_read}
use Rattle.rules_text.specs.PlacesOfText.{IsCodeWithPlaces}
use Rattle.rules_text.specs.declared.compiler.CodeWithPlaces.{CodeWithPlaces}
use Rattle.rules_text.proofs.ReadingSteps.{without_places}
use Rattle.rules_cells.specs.Decisions.{decision_of}
use Rattle.rules_cells.specs.declared.rules.Rules.{Rules}
use Rattle.rules_text.specs.DecisionsRead.{rules_decide}
use Rattle.rules_text.specs.RulesRead.{rules_read}
use Rattle.rules_text.proofs.DecisionsSame as decisions
use Rattle.rules_text.proofs.OneCode as codes

-- Rules in memory decide as what they are written as.
pub decision_same : (rules : Rules) (cell : List ℕ) → decision_of rules cell ≡ rules_decide (rules_read rules) cell
decision_same = decisions.decision_same

-- A code with numbers is the code of the text.
pub code_of_code_with_places : (octets : List ℕ) (made : CodeWithPlaces) → IsCodeWithPlaces octets made → IsCodeOfText octets made.placed.code.items
code_of_code_with_places octets made is = record {
  rules = is.placed_rules.rules;
  read = without_places octets (placed_rules_read is.placed_rules) is.read;
  lines = is.lines;
  plain = is.plain;
  code_is = is.code;
}

-- Each text has one code.
pub one_code : (octets : List ℕ) (code other : List Instr) → IsCodeOfText octets code → IsCodeOfText octets other → code ≡ other
one_code = codes.one_code
