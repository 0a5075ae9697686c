-- Octets have at most one error, and none if they spell a code.
use Rattle.std.proofs.Common.{◌≡◌, ◌≢◌, ℕ, List, refl, arith}
use Rattle.bpf_code.proofs.Fronts.{SpellsCode-ragged, SpellsCode-known, IsFirstUnknown-place, IsFirstUnknown-code}
use Rattle.bpf_code.specs.Decoding.{IsDecodeFault}
use Rattle.bpf_code.specs.OctetSpelling.{SpellsCode}
use Rattle.bpf_code.specs.declared.decoder.DecodeFault.{DecodeFault}
use Rattle.bpf_code.specs.declared.decoder.DecodeFault.TheVariants.{Ragged, UnknownCode, NoMemory}
use Rattle.bpf_code.specs.declared.instr.Instr.{Instr}

-- Octets that spell a code have no error other than NoMemory.
pub code-no_fault : (octets : List ℕ) (code : List Instr) (fault : DecodeFault) → SpellsCode octets code → fault ≢ NoMemory → IsDecodeFault octets fault → ⊥
code-no_fault octets code Ragged spells real faulty = SpellsCode-ragged octets code spells faulty
code-no_fault octets code (UnknownCode at number) spells real faulty = SpellsCode-known octets code at number spells faulty.1
code-no_fault octets code NoMemory spells real faulty = real refl

-- Octets have at most one error other than NoMemory.
pub one-decode_fault : (octets : List ℕ) (one other : DecodeFault) → one ≢ NoMemory → other ≢ NoMemory → IsDecodeFault octets one → IsDecodeFault octets other → one ≡ other
one-decode_fault octets Ragged Ragged r s p q = refl
one-decode_fault octets Ragged (UnknownCode at code) r s p q = absurd (omega (arith, p, q.0))
one-decode_fault octets (UnknownCode at code) Ragged r s p q = absurd (omega (arith, q, p.0))
one-decode_fault octets (UnknownCode at code) (UnknownCode at' code') r s p q =
    let places = IsFirstUnknown-place octets at at' code code' p.1 q.1 in
    let codes = IsFirstUnknown-code octets at at' code code' p.1 q.1 in
    cc
one-decode_fault octets NoMemory other r s p q = absurd (r refl)
one-decode_fault octets Ragged NoMemory r s p q = absurd (s refl)
one-decode_fault octets (UnknownCode at code) NoMemory r s p q = absurd (s refl)
