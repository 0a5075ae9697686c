-- How a map of keys leads to the states of flows.
use Rattle.std.specs.Prelude.{◌≡◌, ◌<◌, ◌^◌, ℕ, true, false, Option, Some, None, Result, Ok, Err, List, slice_get, slice_set}
use Rattle.std.specs.BTreeMap.{is_at}
use Rattle.std.specs.Map.{lookup}
use Rattle.std.specs.Ordering.{nat_cmp}
use Rattle.cmd_fit.specs.Fits.{fit_after, is_in_64_bits}
use Rattle.cmd_fit.specs.FitText.{flow_key}
use Rattle.cmd_fit.specs.declared.flow_fit.FlowFit.{FlowFit}
use Rattle.cmd_fit.specs.declared.fault.FitFault.{FitFault}
use Rattle.cmd_fit.specs.declared.fault.FitFault.TheVariants.{TooLarge}
use Rattle.cmd_fit.specs.declared.flow.Flow.{Flow}

-- A flow whose channel has 16 bits, and whose value 32. Different ones have different keys.
abbrev pub IsSmall : Flow → Type 0
IsSmall flow = (flow.vc.vci < 2 ^ 16) × (flow.value < 2 ^ 32)

-- The place of a flow's state, by these entries.
abbrev pub state_place : List (ℕ × ℕ) → Flow → Option ℕ
state_place places flow = lookup (is_at (nat_cmp (flow_key flow))) places

-- The flow's state is at this place.
pub record HasFit (fits : List FlowFit) (place : ℕ) (flow : Flow) : Type 0 where
  pub fit : FlowFit
  pub there : slice_get fits place ≡ Some fit
  pub own : fit.flow ≡ flow

-- The entries lead to this place for this flow, which is small.
pub record IsLedTo (places : List (ℕ × ℕ)) (place : ℕ) (flow : Flow) : Type 0 where
  pub leads : state_place places flow ≡ Some place
  pub small : IsSmall flow

-- The entries lead from each flow with a state to the place of the state, and from no other flow anywhere.
pub record KeepsFits (places : List (ℕ × ℕ)) (fits : List FlowFit) : Type 0 where
  pub found : (flow : Flow) → IsSmall flow → (place : ℕ) → state_place places flow ≡ Some place → HasFit fits place flow
  pub kept : (place : ℕ) (fit : FlowFit) → slice_get fits place ≡ Some fit → IsLedTo places place fit.flow

-- The new states, or the fault if there is one.
abbrev pub taken_as : Option FitFault → List FlowFit → Result (List FlowFit) FitFault
taken_as None fits = Ok fits
taken_as (Some fault) fits = Err fault

-- The state at this place is the one after a cell, or 64 bits don't hold that one and nothing changed.
abbrev pub TakesAt : List FlowFit → ℕ → ℕ → ℕ → ℕ → Option FitFault → List FlowFit → Type 0
TakesAt old place increment moment number None new = (fit : FlowFit) → slice_get old place ≡ Some fit
    → (is_in_64_bits (fit_after increment fit moment number) ≡ true) × (new ≡ slice_set old place (fit_after increment fit moment number))
TakesAt old place increment moment number (Some fault) new = (new ≡ old) × ((fit : FlowFit) → slice_get old place ≡ Some fit
    → (is_in_64_bits (fit_after increment fit moment number) ≡ false) × (fault ≡ TooLarge))
