-- The faults that the code returns.
use Rattle.std.specs.Prelude.{◌≡◌, ℕ, Result, Ok, Err}
use Rattle.rules_text.specs.TextFaults.{IsFaultOf}
use Rattle.rules_text.specs.TextOfRules.{placed_fault}
use Rattle.rules_text.specs.declared.fault.RuleFault.{RuleFault}
use Rattle.rules_text.specs.declared.fault.RuleFaultKind.{RuleFaultKind}
use Rattle.rules_text.specs.declared.fault.RuleFaultKind.TheVariants.{NoMemory}

-- A fault at a place. That of a failed allocation has none.
abbrev pub fault_seen : ℕ → ℕ → RuleFaultKind → RuleFault
fault_seen line column NoMemory = placed_fault 0 0 NoMemory
fault_seen line column kind = placed_fault line column kind

-- What is returned is what is read, as it is seen, or a fault of what is read.
abbrev pub IsReadAs : {A B : Type 0} → Result A RuleFault → Result B RuleFault → (A → B) → Type 0
IsReadAs (Ok found) read seen = read ≡ Ok (seen found)
IsReadAs (Err fault) read seen = IsFaultOf read fault
