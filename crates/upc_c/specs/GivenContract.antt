-- Contracts from the numbers that C gives.
use Rattle.std.specs.Prelude.{◌≡◌, ◌⊎◌, ◌^◌, ◌<◌, ◌≤◌, ℕ}
use Rattle.leaky.specs.declared.gcra.Gcra.{Gcra}
use Rattle.leaky.specs.declared.contract.Contract.{Contract}
use Rattle.leaky.specs.declared.contract.Contract.TheVariants.{Cbr1, Vbr1, Vbr2, Vbr3}
use Rattle.upc_c.specs.Faults.{plain_fault, unknown_kind}
use Rattle.upc_c.specs.declared.contract.UpcContract.{UpcContract}
use Rattle.upc_c.specs.declared.fault.UpcFault.{UpcFault}

-- The rate with this increment and limit.
abbrev pub IsGivenRate : ℕ → ℕ → Gcra → Type 0
IsGivenRate increment limit gcra = (gcra.increment ≡ increment) × (gcra.limit ≡ limit)

-- The rate of bucket 1, the peak cell rate.
abbrev pub IsPeak : UpcContract → Gcra → Type 0
IsPeak given gcra = IsGivenRate given.peak_increment given.peak_limit gcra

-- The rate of bucket 2, the sustainable cell rate.
abbrev pub IsSustained : UpcContract → Gcra → Type 0
IsSustained given gcra = IsGivenRate given.sustained_increment given.sustained_limit gcra

-- The contract with these numbers. CBR.1 has one rate and ignores the other two numbers.
abbrev pub IsGivenContract : UpcContract → Contract → Type 0
IsGivenContract given (Cbr1 peak) = (given.kind ≡ 1) × IsPeak given peak
IsGivenContract given (Vbr1 peak sustained) = (given.kind ≡ 2) × IsPeak given peak × IsSustained given sustained
IsGivenContract given (Vbr2 peak sustained) = (given.kind ≡ 3) × IsPeak given peak × IsSustained given sustained
IsGivenContract given (Vbr3 peak sustained) = (given.kind ≡ 4) × IsPeak given peak × IsSustained given sustained

-- The two numbers are a rate: the increment is 1 to 2^48 ticks, and the limit at most 2^48 ticks.
pub record AreARate (increment limit : ℕ) : Type 0 where
  pub least : 0 < increment
  pub most : increment ≤ 2 ^ 48
  pub limited : limit ≤ 2 ^ 48

-- The numbers are a contract: one of the four kinds, and a rate for each bucket that the kind has.
pub record AreAContract (given : UpcContract) : Type 0 where
  pub known : (0 < given.kind) × (given.kind ≤ 4)
  pub peak : AreARate given.peak_increment given.peak_limit
  pub sustained : 1 < given.kind → AreARate given.sustained_increment given.sustained_limit

-- The error if the two numbers of a bucket are no rate: gcra 1 ZeroIncrement, else gcra 2 TooLarge.
abbrev pub IsRateFault : ℕ → ℕ → ℕ → UpcFault → Type 0
IsRateFault bucket increment limit fault =
    ((increment ≡ 0) × (fault ≡ plain_fault 6 1 bucket))
    ⊎ ((0 < increment) × ((2 ^ 48 < increment) ⊎ (2 ^ 48 < limit)) × (fault ≡ plain_fault 6 2 bucket))

-- The error if the numbers are no contract: that of the kind; else that of the first bucket with numbers that are no
-- rate.
abbrev pub IsContractFault : UpcContract → UpcFault → Type 0
IsContractFault given fault =
    (((given.kind ≡ 0) ⊎ (4 < given.kind)) × (fault ≡ unknown_kind))
    ⊎ ((0 < given.kind) × (given.kind ≤ 4) × IsRateFault 1 given.peak_increment given.peak_limit fault)
    ⊎ ((1 < given.kind) × (given.kind ≤ 4) × AreARate given.peak_increment given.peak_limit
    × IsRateFault 2 given.sustained_increment given.sustained_limit fault)
