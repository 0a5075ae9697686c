-- The fault lines of contracts.
use Rattle.std.specs.Prelude.{ℕ, List, ◌++◌, codes}
use Rattle.cmd_size.specs.declared.fault.SizeFault.{SizeFault}
use Rattle.cmd_size.specs.declared.fault.SizeFault.TheVariants as fault

-- The number and the name of a fault.
abbrev pub size_fault_name : SizeFault → List ℕ
size_fault_name fault.BadLine = codes "1 BadLine"
size_fault_name fault.BadNumber = codes "2 BadNumber"
size_fault_name fault.ZeroRate = codes "3 ZeroRate"
size_fault_name fault.TooFast = codes "4 TooFast"
size_fault_name fault.ZeroMbs = codes "5 ZeroMbs"
size_fault_name fault.PeakSlower = codes "6 PeakSlower"
size_fault_name fault.TooLarge = codes "7 TooLarge"

-- The answer to a line with a fault.
abbrev pub size_fault : SizeFault → List ℕ
size_fault kind = codes "fault size " ++ size_fault_name kind ++ codes "\n"
