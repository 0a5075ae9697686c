-- The burst tolerance that C gets.
use Rattle.std.specs.Prelude.{◌≡◌, ◌⊎◌, ◌^◌, ◌<◌, ◌≤◌, ℕ}
use Rattle.leaky.specs.Tolerance.{tolerance_of}
use Rattle.upc_c.specs.Faults.{plain_fault}
use Rattle.upc_c.specs.declared.fault.UpcFault.{UpcFault}

-- There is a tolerance: the burst has cells, the peak cell rate is at least the sustainable one, and the tolerance is
-- at most 2^48 ticks.
pub record HasTolerance (mbs ts tp : ℕ) : Type 0 where
  pub cells : 0 < mbs
  pub faster : tp ≤ ts
  pub limited : tolerance_of mbs ts tp ≤ 2 ^ 48

-- The error if there is no tolerance: burst 1 ZeroMbs, else 2 PeakSlower, else 3 TooLarge.
abbrev pub IsBurstFault : ℕ → ℕ → ℕ → UpcFault → Type 0
IsBurstFault mbs ts tp fault =
    ((mbs ≡ 0) × (fault ≡ plain_fault 7 1 0))
    ⊎ ((0 < mbs) × (ts < tp) × (fault ≡ plain_fault 7 2 0))
    ⊎ ((0 < mbs) × (tp ≤ ts) × (2 ^ 48 < tolerance_of mbs ts tp) × (fault ≡ plain_fault 7 3 0))
