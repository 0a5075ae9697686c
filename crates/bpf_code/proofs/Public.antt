-- Lemmas for proofs of other crates: the public laws, and facts about octets that spell a code.
use Rattle.std.proofs.Common.{◌≡◌, ◌≢◌, ℕ, ◌+◌, ◌*◌, ◌≤◌, ◌⊎◌, List, length}
use Rattle.bpf_code.proofs.OneFault as faults
use Rattle.bpf_code.proofs.Spelled as spelled
use Rattle.bpf_code.proofs.Total as total
use Rattle.bpf_code.proofs.Written as written
use Rattle.bpf_code.specs.Decoding.{IsDecodeFault}
use Rattle.bpf_code.specs.Encoding.{code_octets}
use Rattle.bpf_code.specs.Flow.{IsInstrAt}
use Rattle.bpf_code.specs.OctetSpelling.{Spells, SpellsCode, SpellsPlainly, eight_at}
use Rattle.bpf_code.specs.Widths.{FitsFields}
use Rattle.bpf_code.specs.declared.decoder.DecodeFault.{DecodeFault}
use Rattle.bpf_code.specs.declared.decoder.DecodeFault.TheVariants.{NoMemory}
use Rattle.bpf_code.specs.declared.instr.Instr.{Instr}

-- Octets spell at most one code.
pub SpellsCode-unique : (octets : List ℕ) (one other : List Instr) → SpellsCode octets one → SpellsCode octets other → one ≡ other
SpellsCode-unique = spelled.SpellsCode-unique

-- A code of n instructions is spelled by 8 * n octets.
pub SpellsCode-length : (octets : List ℕ) (code : List Instr) → SpellsCode octets code → length octets ≡ 8 * length code
SpellsCode-length = spelled.SpellsCode-length

-- In octets that spell a code, the eight at each place spell an instruction.
pub SpellsCode-at : (octets : List ℕ) (code : List Instr) (place : ℕ) → SpellsCode octets code → 8 * place + 8 ≤ length octets → (i : Instr) × Spells (eight_at octets place) i
SpellsCode-at = spelled.SpellsCode-at

-- Octets spell a code or have an error other than NoMemory.
pub code-or_fault : (octets : List ℕ) → ((code : List Instr) × SpellsCode octets code) ⊎ ((fault : DecodeFault) × (fault ≢ NoMemory) × IsDecodeFault octets fault)
code-or_fault = total.code-or_fault

-- Octets that spell a code have no error other than NoMemory.
pub code-no_fault : (octets : List ℕ) (code : List Instr) (fault : DecodeFault) → SpellsCode octets code → fault ≢ NoMemory → IsDecodeFault octets fault → ⊥
code-no_fault = faults.code-no_fault

-- Octets have at most one error other than NoMemory.
pub one-decode_fault : (octets : List ℕ) (one other : DecodeFault) → one ≢ NoMemory → other ≢ NoMemory → IsDecodeFault octets one → IsDecodeFault octets other → one ≡ other
one-decode_fault = faults.one-decode_fault

-- The octets of a code whose instructions fit their fields spell it, with 0 in unused fields.
pub code_octets-plainly : (code : List Instr) → ((place : ℕ) (i : Instr) → IsInstrAt code place i → FitsFields i) → SpellsPlainly (code_octets code) code
code_octets-plainly = written.code_octets-plainly
