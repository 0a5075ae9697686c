-- The fault lines of octets that are no code, and of codes that are no program.
use Rattle.std.specs.Prelude.{ℕ, List, [], ◌++◌, codes, decimal}
use Rattle.bpf_code.specs.declared.decoder.DecodeFault.{DecodeFault}
use Rattle.bpf_code.specs.declared.decoder.DecodeFault.TheVariants.{Ragged, UnknownCode, NoMemory}
use Rattle.bpf_verify.specs.declared.fault.Fault.{Fault}
use Rattle.bpf_verify.specs.declared.fault.Fault.TheVariants as fault
use Rattle.text_words.specs.FaultLines.{line}
use Rattle.text_words.specs.Hexadecimal.{four_digits}

-- The answer to octets that aren't a code. NoMemory has none.
abbrev pub decode_fault : DecodeFault → List ℕ
decode_fault Ragged = codes "fault decode 1 Ragged\n"
decode_fault (UnknownCode at code) = line (codes "fault decode 2 UnknownCode " ++ decimal at ++ codes " " ++ four_digits code)
decode_fault NoMemory = []

-- The answer to a code that isn't a program.
abbrev pub verify_fault : Fault → List ℕ
verify_fault fault.Empty = codes "fault verify 1 Empty\n"
verify_fault fault.TooLong = codes "fault verify 2 TooLong\n"
verify_fault (fault.BadScratch at) = line (codes "fault verify 3 BadScratch " ++ decimal at)
verify_fault (fault.ZeroDivisor at) = line (codes "fault verify 4 ZeroDivisor " ++ decimal at)
verify_fault (fault.BadShift at) = line (codes "fault verify 5 BadShift " ++ decimal at)
verify_fault (fault.JumpOutside at) = line (codes "fault verify 6 JumpOutside " ++ decimal at)
verify_fault fault.NoReturn = codes "fault verify 7 NoReturn\n"
verify_fault (fault.Unwritten at word) = line (codes "fault verify 8 Unwritten " ++ decimal at ++ codes " " ++ decimal word)
