-- The fault that is returned for a text of rules.
use Rattle.std.specs.Prelude.{◌≡◌, ◌⊎◌, ◌<◌, ℕ, List, length, Result, Err}
use Rattle.bpf_code.specs.declared.instr.Instr.{Instr}
use Rattle.rules_text.specs.CodeOfText.{IsCodeOfText}
use Rattle.rules_text.specs.TextOfRules.{placed_fault, rules_in}
use Rattle.rules_text.specs.declared.fault.RuleFault.{RuleFault}
use Rattle.rules_text.specs.declared.fault.RuleFaultKind.TheVariants.{NoMemory, TooLong}

-- The fault is that an allocation failed, or it is what the definition says. The fault of an allocation has no place.
abbrev pub IsFaultOf : {A : Type 0} → Result A RuleFault → RuleFault → Type 0
IsFaultOf read fault = (fault ≡ placed_fault 0 0 NoMemory) ⊎ (read ≡ Err fault)

-- The text has rules, and the code that is defined for it has more than 4096 instructions.
pub record IsTooLong (octets : List ℕ) : Type 0 where
  pub code : List Instr
  pub of_text : IsCodeOfText octets code
  pub longer : 4096 < length code

-- The fault is one of reading the text, or the code is too long, which has no place.
abbrev pub IsCompilingFault : List ℕ → RuleFault → Type 0
IsCompilingFault octets fault = IsFaultOf (rules_in octets) fault ⊎ ((fault ≡ placed_fault 0 0 TooLong) × IsTooLong octets)
