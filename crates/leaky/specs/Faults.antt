-- The text of an error: its number and its name.
use Rattle.std.specs.Prelude.{ℕ, List, codes}
use Rattle.leaky.specs.declared.gcra.GcraFault.{GcraFault}
use Rattle.leaky.specs.declared.gcra.GcraFault.TheVariants as rate
use Rattle.leaky.specs.declared.tolerance.BtFault.{BtFault}
use Rattle.leaky.specs.declared.tolerance.BtFault.TheVariants as burst

-- The text of each error of a rate.
abbrev pub gcra_fault_text : GcraFault → List ℕ
gcra_fault_text rate.ZeroIncrement = codes "1 ZeroIncrement"
gcra_fault_text rate.TooLarge = codes "2 TooLarge"

-- The text of each error of a burst tolerance.
abbrev pub bt_fault_text : BtFault → List ℕ
bt_fault_text burst.ZeroMbs = codes "1 ZeroMbs"
bt_fault_text burst.PeakSlower = codes "2 PeakSlower"
bt_fault_text burst.TooLarge = codes "3 TooLarge"
