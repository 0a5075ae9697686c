-- The contracts that a script requests, and the errors of their rates.
use Rattle.std.specs.Prelude.{◌≡◌, ◌^◌, ◌==◌, ◌||◌, nat_lt, if◌then◌else◌, List, [], ◌∷◌, Option, Some, None, ⊤}
use Rattle.leaky.specs.declared.contract.Contract.{Contract}
use Rattle.leaky.specs.declared.contract.Contract.TheVariants.{Cbr1, Vbr1, Vbr2, Vbr3}
use Rattle.leaky.specs.declared.gcra.Gcra.{Gcra}
use Rattle.leaky.specs.declared.gcra.GcraFault.{GcraFault}
use Rattle.leaky.specs.declared.gcra.GcraFault.TheVariants.{ZeroIncrement, TooLarge}
use Rattle.text_script.specs.declared.script_words.Rate.{Rate}
use Rattle.text_script.specs.declared.script_words.Wanted.{Wanted}
use Rattle.text_script.specs.declared.script_words.Wanted.TheVariants as wanted

-- The error of a rate, if it has one: its increment is 0, or one of its numbers is above 2^48.
abbrev pub rate_fault : Rate → Option GcraFault
rate_fault rate =
    if rate.increment == 0 then Some ZeroIncrement
    else if nat_lt (2 ^ 48) rate.increment || nat_lt (2 ^ 48) rate.limit then Some TooLarge
    else None

-- The first of two errors.
abbrev pub first_of_two : Option GcraFault → Option GcraFault → Option GcraFault
first_of_two (Some fault) other = Some fault
first_of_two None other = other

-- The error of the first rate of a contract that has one.
abbrev pub wanted_fault : Wanted → Option GcraFault
wanted_fault (wanted.Cbr1 peak) = rate_fault peak
wanted_fault (wanted.Vbr1 peak sustained) = first_of_two (rate_fault peak) (rate_fault sustained)
wanted_fault (wanted.Vbr2 peak sustained) = first_of_two (rate_fault peak) (rate_fault sustained)
wanted_fault (wanted.Vbr3 peak sustained) = first_of_two (rate_fault peak) (rate_fault sustained)

-- The error of the first rate that has one, over all contracts from left to right.
abbrev pub first_wanted_fault : List Wanted → Option GcraFault
first_wanted_fault [] = None
first_wanted_fault (ask ∷ later) = first_of_two (wanted_fault ask) (first_wanted_fault later)

-- The rate has the requested numbers.
abbrev pub IsRate : Rate → Gcra → Type 0
IsRate rate gcra = (gcra.increment ≡ rate.increment) × (gcra.limit ≡ rate.limit)

-- The contract is the requested one.
abbrev pub IsContract : Wanted → Contract → Type 0
IsContract (wanted.Cbr1 peak) (Cbr1 bucket) = IsRate peak bucket
IsContract (wanted.Vbr1 peak sustained) (Vbr1 bucket other) = IsRate peak bucket × IsRate sustained other
IsContract (wanted.Vbr2 peak sustained) (Vbr2 bucket other) = IsRate peak bucket × IsRate sustained other
IsContract (wanted.Vbr3 peak sustained) (Vbr3 bucket other) = IsRate peak bucket × IsRate sustained other
IsContract _ _ = ⊥

-- The contracts are the requested ones, in order.
abbrev pub AreContracts : List Wanted → List Contract → Type 0
AreContracts [] [] = ⊤
AreContracts (ask ∷ later) (contract ∷ contracts) = IsContract ask contract × AreContracts later contracts
AreContracts _ _ = ⊥
