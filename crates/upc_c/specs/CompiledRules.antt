-- The program that a text of rules is compiled to, and the errors of such texts.
use Rattle.std.specs.Prelude.{◌≡◌, ℕ, List}
use Rattle.bpf_code.specs.Encoding.{code_octets}
use Rattle.bpf_code.specs.declared.instr.Instr.{Instr}
use Rattle.bpf_verify.specs.Accepted.{IsAccepted}
use Rattle.rules_text.specs.TextFaults.{IsCompilingFault}
use Rattle.rules_text.specs.ValuesRead.{FollowsText}
use Rattle.rules_text.specs.declared.fault.RuleFault.{RuleFault}
use Rattle.upc_c.specs.LibraryFaults.{rule_fault_for_c}
use Rattle.upc_c.specs.declared.fault.UpcFault.{UpcFault}

-- These are the octets of an accepted code that on every cell gives the value of the rules of the text.
abbrev pub IsCompiled : List ℕ → List ℕ → Type 0
IsCompiled text octets = (code : List Instr) × IsAccepted code × FollowsText text code × (octets ≡ code_octets code)

-- The text has this fault, or its code is too long, or an allocation failed.
abbrev pub IsRulesRefusal : List ℕ → UpcFault → Type 0
IsRulesRefusal text fault = (found : RuleFault) × IsCompilingFault text found × (fault ≡ rule_fault_for_c found)
