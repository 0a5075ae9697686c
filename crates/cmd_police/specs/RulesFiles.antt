-- What the text of a file of rules leads to: a program, or a fault line.
use Rattle.std.specs.Prelude.{◌≡◌, ◌⊎◌, ℕ, List, [], ◌∷◌, codes, Option, Some, MatchOption, Ok}
use Rattle.bpf_code.specs.Encoding.{code_octets}
use Rattle.bpf_code.specs.OctetSpelling.{SpellsCode}
use Rattle.bpf_code.specs.declared.instr.Instr.{Instr}
use Rattle.bpf_verify.specs.Accepted.{IsAccepted}
use Rattle.hex.specs.Hex.{encode_lower}
use Rattle.cmd_explain_rules.specs.RuleReasons.{rule_explanation}
use Rattle.cmd_explain_rules.specs.RulesExplained.{IsFaultOfText}
use Rattle.cmd_rules.specs.RuleFaults.{rule_fault}
use Rattle.cmd_rules.specs.RulesAnswers.{most_rules_octets}
use Rattle.rules_text.specs.CodeOfText.{IsCodeOfText}
use Rattle.rules_text.specs.TextOfRules.{PlacedRulesRead, placed_rules_in, placed_fault}
use Rattle.rules_text.specs.ValuesRead.{FollowsText}
use Rattle.rules_text.specs.declared.fault.RuleFault.{RuleFault}
use Rattle.rules_text.specs.declared.fault.RuleFaultKind.TheVariants.{TooLong}
use Rattle.text_io.specs.Gathered.{gathered}
use Rattle.text_words.specs.FaultLines.{too_long}
use Rattle.text_words.specs.Hexadecimal.{octets_of_digits}

-- The octets of a code in lower case hexadecimal digits, as `upc-lab rules` prints them.
abbrev pub program_digits : List Instr → List ℕ
program_digits code = encode_lower (code_octets code)

-- Whoever reads these digits gets the octets, and the octets spell the code.
pub record IsReadAgain (code : List Instr) : Type 0 where
  pub digits : octets_of_digits (program_digits code) ≡ Some (code_octets code)
  pub spelled : SpellsCode (code_octets code) code

-- The text is within the limit, and the code is the one that is defined for it: it is accepted, on every cell the
-- machine gives the value of the text's rules, and it is what its digits are read as.
pub record IsProgramOfRules (text : List ℕ) (code : List Instr) : Type 0 where
  pub within : gathered most_rules_octets text ≡ Some text
  pub accepted : IsAccepted code
  pub follows : FollowsText text code
  pub of_text : IsCodeOfText text code
  pub read_again : IsReadAgain code

-- The explanation of a text over the limit.
abbrev pub too_large_text : List ℕ
too_large_text = codes "a text of rules has at most 1048576 octets\n"

-- The lines about the text that was found: its fault line, as `upc-lab rules` has it, and the explanation of that fault, as
-- `upc-lab explain` has it. `IsFault` says which the fault is. No text was found where it is over the limit.
abbrev pub TellsFault : (List ℕ → RuleFault → Type 0) → Option (List ℕ) → List ℕ → List ℕ → Type 0
TellsFault IsFault found line reason = MatchOption found ((line ≡ too_long) × (reason ≡ too_large_text))
    (λ text. (fault : RuleFault) × IsFault text fault × (line ≡ rule_fault fault) × (reason ≡ rule_explanation text fault))

-- The text has a fault, and these are its fault line and its explanation.
abbrev pub IsFaultOfRules : List ℕ → List ℕ → List ℕ → Type 0
IsFaultOfRules text line reason = TellsFault IsFaultOfText (gathered most_rules_octets text) line reason

-- The fault of a text, or that the code of its rules is too long, if it has rules.
abbrev pub MayBeFaultOfText : List ℕ → RuleFault → Type 0
MayBeFaultOfText text fault =
    IsFaultOfText text fault ⊎ (((numbered : PlacedRulesRead) × (placed_rules_in text ≡ Ok numbered)) × (fault ≡ placed_fault 0 0 TooLong))

-- The same as `IsFaultOfRules`, but that the code of any rules may be reported as too long.
abbrev pub MayBeFaultOfRules : List ℕ → List ℕ → List ℕ → Type 0
MayBeFaultOfRules text line reason = TellsFault MayBeFaultOfText (gathered most_rules_octets text) line reason

-- The first of the texts that are left; a text that is missing counts as empty.
abbrev pub next_text : List (List ℕ) → List ℕ
next_text [] = []
next_text (text ∷ texts) = text

-- The texts that are left after the first of them.
abbrev pub later_texts : List (List ℕ) → List (List ℕ)
later_texts [] = []
later_texts (text ∷ texts) = texts
