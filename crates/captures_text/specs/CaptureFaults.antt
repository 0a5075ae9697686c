-- The fault lines of captures. A fault of a file has its number and name; that of a place has the place after them, in octets from 0.
use Rattle.std.specs.Prelude.{ℕ, List, ◌++◌, codes, decimal}
use Rattle.captures.specs.declared.fault.Fault.{Fault}
use Rattle.captures.specs.declared.fault.RecordFault.{RecordFault}
use Rattle.captures.specs.declared.fault.RecordFault.TheVariants.{CutOff, ShortLength, LongLength, ShortRecord, TooFar, OddLength, LengthsDiffer, OtherMagic, OtherVersion, ShortBlock, OtherLink, NoInterface, LongPacket, ShortText, OtherResolution, OtherUnit}
use Rattle.captures.specs.declared.opening.FileFault.{FileFault}
use Rattle.captures.specs.declared.opening.FileFault.TheVariants as file
use Rattle.text_words.specs.FaultLines.{line}

-- The answer to a file that isn't read.
abbrev pub file_fault_line : FileFault → List ℕ
file_fault_line file.Gzip = line (codes "fault file 1 Gzip")
file_fault_line (file.OtherLink link) = line (codes "fault file 2 OtherLink " ++ decimal link)
file_fault_line file.Text = line (codes "fault file 3 Text")
file_fault_line file.Xz = line (codes "fault file 4 Xz")
file_fault_line file.Bzip2 = line (codes "fault file 5 Bzip2")
file_fault_line file.Zstd = line (codes "fault file 6 Zstd")
file_fault_line file.Empty = line (codes "fault file 7 Empty")

-- A fault: its number and name, and its own number if it has one.
abbrev pub record_fault_text : RecordFault → List ℕ
record_fault_text CutOff = codes "1 CutOff"
record_fault_text (ShortLength n) = codes "2 ShortLength " ++ decimal n
record_fault_text (LongLength n) = codes "3 LongLength " ++ decimal n
record_fault_text ShortRecord = codes "4 ShortRecord"
record_fault_text TooFar = codes "5 TooFar"
record_fault_text (OddLength n) = codes "6 OddLength " ++ decimal n
record_fault_text (LengthsDiffer n) = codes "7 LengthsDiffer " ++ decimal n
record_fault_text (OtherMagic n) = codes "8 OtherMagic " ++ decimal n
record_fault_text (OtherVersion n) = codes "9 OtherVersion " ++ decimal n
record_fault_text (ShortBlock n) = codes "10 ShortBlock " ++ decimal n
record_fault_text (OtherLink n) = codes "11 OtherLink " ++ decimal n
record_fault_text (NoInterface n) = codes "12 NoInterface " ++ decimal n
record_fault_text (LongPacket n) = codes "13 LongPacket " ++ decimal n
record_fault_text ShortText = codes "14 ShortText"
record_fault_text (OtherResolution n) = codes "15 OtherResolution " ++ decimal n
record_fault_text (OtherUnit n) = codes "16 OtherUnit " ++ decimal n

-- The answer to a place at which a file is no capture.
abbrev pub capture_fault_line : Fault → List ℕ
capture_fault_line fault =
    codes "fault capture " ++ record_fault_text fault.reason ++ codes " " ++ decimal fault.at ++ codes "\n"
