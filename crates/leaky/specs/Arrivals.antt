-- Sequences of cells under one contract.
use Rattle.std.specs.Prelude.{ℕ, Bool, true, false, ◌&&◌, if◌then◌else◌, List, [], ◌∷◌}
use Rattle.leaky.specs.declared.contract.Contract.{Contract}
use Rattle.leaky.specs.declared.verdict.Verdict.{Verdict}
use Rattle.leaky.specs.declared.verdict.Verdict.TheVariants.{Pass, Tag, Discard, Refuse}
use Rattle.leaky.specs.Contract.{Buckets, meets_second, verdict_of, buckets_after}

-- What a contract sees of a cell: its moment of arrival in ticks, and its cell loss priority.
pub record Arrival : Type 0 where
  pub moment : ℕ
  pub clp : Bool

-- The buckets after these cells.
abbrev pub buckets_left : Contract → Buckets → List Arrival → Buckets
buckets_left contract buckets [] = buckets
buckets_left contract buckets (arrival ∷ later) =
    buckets_left contract (buckets_after contract buckets arrival.clp arrival.moment) later

-- Whether a cell with this verdict charges bucket 1: true for passed and tagged cells.
abbrev pub charges_first : Verdict → Bool
charges_first Pass = true
charges_first Tag = true
charges_first Discard = false
charges_first Refuse = false

-- Whether the verdict is Pass.
abbrev pub is_passed : Verdict → Bool
is_passed Pass = true
is_passed Tag = false
is_passed Discard = false
is_passed Refuse = false

-- Whether a cell charges bucket 2: true if it meets bucket 2 and passes.
abbrev pub charges_second : Verdict → Contract → Bool → Bool
charges_second verdict contract clp = meets_second contract clp && is_passed verdict

-- The moments of the cells that charge a bucket: those for whose verdict and cell loss priority `charges` is true.
abbrev pub charging_moments : (Verdict → Bool → Bool) → Contract → Buckets → List Arrival → List ℕ
charging_moments charges contract buckets [] = []
charging_moments charges contract buckets (arrival ∷ later) =
    let verdict = verdict_of contract buckets arrival.clp arrival.moment in
    let after = buckets_after contract buckets arrival.clp arrival.moment in
    let rest = charging_moments charges contract after later in
    if charges verdict arrival.clp then arrival.moment ∷ rest else rest

-- The moments of the cells that charge bucket 1.
abbrev pub first_charges : Contract → Buckets → List Arrival → List ℕ
first_charges contract = charging_moments (λ verdict clp. charges_first verdict) contract

-- The moments of the cells that charge bucket 2.
abbrev pub second_charges : Contract → Buckets → List Arrival → List ℕ
second_charges contract = charging_moments (λ verdict clp. charges_second verdict contract clp) contract
