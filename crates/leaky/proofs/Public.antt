-- Lemmas for other crates: the laws of this crate as terms of the same names, and what goes with them.
use Rattle.std.proofs.Common.{◌≡◌, ℕ, ◌≤◌, List}
use Rattle.leaky.specs.inner.EqualityLaws.{gcra_same}
use Rattle.leaky.specs.declared.gcra.Gcra.{Gcra}
use Rattle.leaky.specs.Moments.{GoesOn}
use Rattle.leaky.specs.Laws.{ContractsBoundBursts, ChargesAreFillings, FillingsShow, TaggedCellsCameUntagged, LevelsStandForBuckets, LevelsFollowBuckets, ChargesKeepUp, PassedCellsHaveNoExcess, ExcessesAreLeastDelays}
use Rattle.leaky.proofs.SchedulingLemmas.{GoesOn-earlier}
use Rattle.leaky.proofs.ChargeLemmas.{contracts-bound, charges-fill, fillings-show, tagged-untagged}
use Rattle.leaky.proofs.AgreementLemmas.{levels-stand, levels-follow, charges-keep_up}
use Rattle.leaky.proofs.ExcessLemmas.{passed-no-excess, excesses-least}

pub contracts_bound_bursts : ContractsBoundBursts
contracts_bound_bursts = contracts-bound

pub charges_are_fillings : ChargesAreFillings
charges_are_fillings = charges-fill

pub fillings_show : FillingsShow
fillings_show = fillings-show

pub tagged_cells_came_untagged : TaggedCellsCameUntagged
tagged_cells_came_untagged = tagged-untagged

pub levels_stand_for_buckets : LevelsStandForBuckets
levels_stand_for_buckets = levels-stand

pub levels_follow_buckets : LevelsFollowBuckets
levels_follow_buckets = levels-follow

pub charges_keep_up : ChargesKeepUp
charges_keep_up = charges-keep_up

pub passed_cells_have_no_excess : PassedCellsHaveNoExcess
passed_cells_have_no_excess = passed-no-excess

pub excesses_are_least_delays : ExcessesAreLeastDelays
excesses_are_least_delays = excesses-least

-- Moments that start at or after a moment also start at or after any earlier one.
pub goes_on_from_earlier : (earlier earliest : ℕ) (moments : List ℕ) → earlier ≤ earliest
    → GoesOn earliest moments → GoesOn earlier moments
goes_on_from_earlier = GoesOn-earlier

-- Rates with equal numbers are equal.
pub equal_numbers_make_equal_rates : (one other : Gcra) → one.increment ≡ other.increment → one.limit ≡ other.limit → one ≡ other
equal_numbers_make_equal_rates = gcra_same
