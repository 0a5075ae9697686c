-- Fields and the numbers that they can have.
use Rattle.std.specs.Prelude.{ℕ, nat_lt, if◌then◌else◌, Result, Ok, Err}
use Rattle.bpf_code.specs.declared.instr.Size.{Size}
use Rattle.bpf_code.specs.declared.instr.Size.TheVariants.{Octet, Half, Word}
use Rattle.upc_cell.specs.Side.{last_vpi}
use Rattle.upc_cell.specs.declared.side.Side.{Side}
use Rattle.upc_cell.specs.declared.side.Side.TheVariants.{Nni, NniPaths}
use Rattle.rules_text.specs.RulesRead.{FieldRead, gfc_field, vpi_field, vci_field, pti_field, clp_field, octets_field}
use Rattle.rules_text.specs.RuleTokens.{RuleToken, number_word, bad_number, refuse_word, contract_value}
use Rattle.rules_text.specs.declared.fault.RuleFaultKind.{RuleFaultKind}
use Rattle.rules_text.specs.declared.fault.RuleFaultKind.TheVariants.{BadLine, BadNumber, TooLarge, OutsideCell}

-- The header field of a name. Between nodes of the network there is no GFC, and octets are no field of the header.
abbrev pub header_read : Side → FieldRead → Result FieldRead RuleFaultKind
header_read Nni gfc_field = Err BadLine
header_read NniPaths gfc_field = Err BadLine
header_read side (octets_field size at) = Err BadLine
header_read side field = Ok field

-- The largest offset of octets that are wholly in a cell.
abbrev pub last_offset : Size → ℕ
last_offset Octet = 51
last_offset Half = 50
last_offset Word = 48

-- The octets at an offset, if they are all in the cell.
abbrev pub octets_read : Size → ℕ → Result FieldRead RuleFaultKind
octets_read size at = if nat_lt (last_offset size) at then Err OutsideCell else Ok (octets_field size at)

-- The octets at the offset that a token is.
abbrev pub octets_at_token : Size → RuleToken → Result FieldRead RuleFaultKind
octets_at_token size (number_word at) = octets_read size at
octets_at_token size bad_number = Err BadNumber
octets_at_token size _ = Err BadLine

-- The largest number of octets.
abbrev pub most_of_size : Size → ℕ
most_of_size Octet = 255
most_of_size Half = 65535
most_of_size Word = 4294967295

-- The largest number that a field can have.
abbrev pub most_of_field : Side → FieldRead → ℕ
most_of_field side gfc_field = 15
most_of_field side vpi_field = last_vpi side
most_of_field side vci_field = 65535
most_of_field side pti_field = 7
most_of_field side clp_field = 1
most_of_field side (octets_field size at) = most_of_size size

-- The number of a token, if it is at most this one.
abbrev pub number_within : ℕ → RuleToken → Result ℕ RuleFaultKind
number_within most (number_word k) = if nat_lt most k then Err TooLarge else Ok k
number_within most bad_number = Err BadNumber
number_within most _ = Err BadLine

-- The value of a rule that a token is. `refuse` is 0, and the name of a contract its number.
abbrev pub value_read : RuleToken → Result ℕ RuleFaultKind
value_read refuse_word = Ok 0
value_read (number_word k) = Ok k
value_read (contract_value k) = Ok k
value_read bad_number = Err BadNumber
value_read _ = Err BadLine
