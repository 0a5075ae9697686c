-- The errors of the libraries below, as C gets them.
use Rattle.std.specs.Prelude.{ℕ}
use Rattle.bpf_asm.specs.declared.fault.AsmFault.{AsmFault}
use Rattle.bpf_asm.specs.declared.fault.AsmKind.{AsmKind}
use Rattle.bpf_asm.specs.declared.fault.AsmKind.TheVariants as asm
use Rattle.bpf_asm.specs.declared.fault.ListFault.{ListFault}
use Rattle.bpf_asm.specs.declared.fault.ListFault.TheVariants as list
use Rattle.bpf_code.specs.declared.decoder.DecodeFault.{DecodeFault}
use Rattle.bpf_code.specs.declared.decoder.DecodeFault.TheVariants as decode
use Rattle.bpf_verify.specs.declared.fault.Fault.{Fault}
use Rattle.bpf_verify.specs.declared.fault.Fault.TheVariants as verify
use Rattle.rules_text.specs.declared.fault.RuleFault.{RuleFault}
use Rattle.rules_text.specs.declared.fault.RuleFaultKind.{RuleFaultKind}
use Rattle.rules_text.specs.declared.fault.RuleFaultKind.TheVariants as rules
use Rattle.upc_c.specs.Faults.{plain_fault, out_of_memory, ragged}
use Rattle.upc_c.specs.declared.fault.UpcFault.{UpcFault}

-- An error of decoding.
abbrev pub decode_fault_for_c : DecodeFault → UpcFault
decode_fault_for_c decode.Ragged = ragged
decode_fault_for_c (decode.UnknownCode at code) = record { kind = 3; number = 2; place = at; word = 0; code = code; column = 0 }
decode_fault_for_c decode.NoMemory = out_of_memory

-- An error of a source, from its kind and its line.
abbrev pub asm_fault_at : AsmKind → ℕ → UpcFault
asm_fault_at asm.BadLine line = plain_fault 4 1 line
asm_fault_at asm.BadNumber line = plain_fault 4 2 line
asm_fault_at asm.LabelTwice line = plain_fault 4 3 line
asm_fault_at asm.UnknownLabel line = plain_fault 4 4 line
asm_fault_at asm.Backward line = plain_fault 4 5 line
asm_fault_at asm.TooFar line = plain_fault 4 6 line
asm_fault_at asm.DanglingLabel line = plain_fault 4 7 line
asm_fault_at asm.NoMemory line = out_of_memory

-- An error of a source.
abbrev pub asm_fault_for_c : AsmFault → UpcFault
asm_fault_for_c fault = asm_fault_at fault.kind fault.line

-- An error of the check of a program.
abbrev pub check_fault_for_c : Fault → UpcFault
check_fault_for_c verify.Empty = plain_fault 5 1 0
check_fault_for_c verify.TooLong = plain_fault 5 2 0
check_fault_for_c (verify.BadScratch at) = plain_fault 5 3 at
check_fault_for_c (verify.ZeroDivisor at) = plain_fault 5 4 at
check_fault_for_c (verify.BadShift at) = plain_fault 5 5 at
check_fault_for_c (verify.JumpOutside at) = plain_fault 5 6 at
check_fault_for_c verify.NoReturn = plain_fault 5 7 0
check_fault_for_c (verify.Unwritten at word) = record { kind = 5; number = 8; place = at; word = word; code = 0; column = 0 }

-- An error of a listing. A jump outside the code has the same error as in the check.
abbrev pub list_fault_for_c : ListFault → UpcFault
list_fault_for_c (list.JumpOutside at) = plain_fault 5 6 at
list_fault_for_c list.NoMemory = out_of_memory

-- An error of a text of rules with this number, line and column.
abbrev pub fault_in_rules : ℕ → ℕ → ℕ → UpcFault
fault_in_rules number line column = record { kind = 11; number = number; place = line; word = 0; code = 0; column = column }

-- An error of a text of rules, from its kind, its line and its column.
abbrev pub rule_fault_at : RuleFaultKind → ℕ → ℕ → UpcFault
rule_fault_at rules.BadLine line column = fault_in_rules 1 line column
rule_fault_at rules.BadNumber line column = fault_in_rules 2 line column
rule_fault_at rules.TooLarge line column = fault_in_rules 3 line column
rule_fault_at rules.OutsideCell line column = fault_in_rules 4 line column
rule_fault_at rules.AfterOtherwise line column = fault_in_rules 5 line column
rule_fault_at rules.Unbalanced line column = fault_in_rules 6 line column
rule_fault_at rules.TooDeep line column = fault_in_rules 7 line column
rule_fault_at rules.TooLong line column = fault_in_rules 8 line column
rule_fault_at rules.NoMemory line column = out_of_memory
rule_fault_at rules.UnknownName line column = fault_in_rules 10 line column
rule_fault_at rules.NameTaken line column = fault_in_rules 11 line column

-- An error of a text of rules.
abbrev pub rule_fault_for_c : RuleFault → UpcFault
rule_fault_for_c fault = rule_fault_at fault.kind fault.line fault.column
