-- The errors that `decode` may return for given octets.
use Rattle.std.specs.Prelude.{◌≡◌, ◌<◌, ◌%◌, ℕ, List, length}
use Rattle.bpf_code.specs.OctetSpelling.{IsFirstUnknown}
use Rattle.bpf_code.specs.declared.decoder.DecodeFault.{DecodeFault}
use Rattle.bpf_code.specs.declared.decoder.DecodeFault.TheVariants.{Ragged, UnknownCode, NoMemory}

-- The error is allowed for these octets. NoMemory is allowed for any.
abbrev pub IsDecodeFault : List ℕ → DecodeFault → Type 0
IsDecodeFault octets Ragged = 0 < length octets % 8
IsDecodeFault octets (UnknownCode at code) = (length octets % 8 ≡ 0) × IsFirstUnknown octets at code
IsDecodeFault octets NoMemory = Unit {0}
