-- Laws that relate the definitions to each other.
use Rattle.std.specs.Prelude.{◌≡◌, ℕ, ◌^◌, ◌≤◌, ◌==◌, ◌&&◌, Some, IfSome, List, [], ◌∷◌, ◌++◌, map, length, All, slice_get, slice_set}
use Rattle.leaky.specs.declared.contract.Contract.{Contract}
use Rattle.leaky.specs.declared.verdict.Verdict.{Verdict}
use Rattle.leaky.specs.Moments.{GoesOn}
use Rattle.leaky.specs.Contract.{Buckets, peak_of, second_of}
use Rattle.leaky.specs.Arrivals.{charges_first, charges_second}
use Rattle.leaky.specs.Bursts.{Fills}
use Rattle.leaky.specs.Laws.{IsBounded}
use Rattle.line_record.specs.declared.entry.Entry.{Entry}
use Rattle.line_record.specs.declared.state.State.{State}
use Rattle.line_record.specs.declared.tally.Tally.{Tally}
use Rattle.line_record.specs.Tally.{counted, cells_in, tally_of, plus, total, IsPartTally}
use Rattle.line_record.specs.History.{NamedCell, IsHistory, moments_of, numbered, empty_buckets, named_cells_of, buckets_after_cells, verdict_after, judged}
use Rattle.line_record.specs.JournalRun.{tallied, KeepsBuckets, IsJournalRun}
use Rattle.line_record.specs.StateAfter.{IsStateAfter}
use Rattle.line_record.specs.Charges.{peak_charges, sustained_charges}

-- For every history of cells with moments up to 2^62, and any counts, there is a state with these counts that agrees
-- with it.
abbrev pub HistoriesHaveStates : Type 0
HistoriesHaveStates = (contracts : List Contract) (history : List NamedCell) (counts : Tally)
    → IsHistory history → All (λ cell. cell.moment ≤ 2 ^ 62) history
    → (state : State) × (state.counts ≡ counts) × IsStateAfter contracts history state

-- Every state represents some buckets, so what a run states about all such buckets isn't vacuous.
abbrev pub StatesStandForBuckets : Type 0
StatesStandForBuckets = (state : State) → (buckets : ℕ → Buckets) × KeepsBuckets state buckets

-- A run and a run that starts from its end make one run.
abbrev pub RunsJoin : Type 0
RunsJoin = (contracts : List Contract) (start middle end : State) (first second : List Entry)
    → IsJournalRun contracts start first middle → IsJournalRun contracts middle second end
    → IsJournalRun contracts start (first ++ second) end

-- If a run starts from a state that agrees with a history, its verdicts are those of the history, and its end agrees
-- with the longer history.
abbrev pub RunsFollowHistories : Type 0
RunsFollowHistories = (contracts : List Contract) (history : List NamedCell)
    → (start end : State) (entries : List Entry)
    → IsStateAfter contracts history start → IsJournalRun contracts start entries end
    → (entries ≡ judged contracts empty_buckets history (named_cells_of entries))
    × IsStateAfter contracts (history ++ named_cells_of entries) end

-- Cells in two parts are judged as one list, the second part after the first.
abbrev pub CellsAreJudgedInTurn : Type 0
CellsAreJudgedInTurn = (contracts : List Contract) (opening : ℕ → Buckets)
    → (history first second : List NamedCell)
    → judged contracts opening history (first ++ second)
    ≡ judged contracts opening history first ++ judged contracts opening (history ++ first) second

-- Judging gives one entry for each cell, and without their verdicts the entries are the cells.
abbrev pub EachCellIsJudged : Type 0
EachCellIsJudged = (contracts : List Contract) (opening : ℕ → Buckets)
    → (history cells : List NamedCell)
    → (length (judged contracts opening history cells) ≡ length cells)
    × (named_cells_of (judged contracts opening history cells) ≡ cells)

-- One more cell fills each bucket of the contract of this number for which HistoriesBoundBursts counts the cell, and leaves
-- the others unchanged.
pub record FillsAsCounted (contract : Contract) (before after : Buckets) (number : ℕ) (cell : NamedCell) (verdict : Verdict) : Type 0 where
  pub first : Fills (peak_of contract) before.first after.first cell.moment
      ((cell.value == number) && charges_first verdict)
  pub second : IfSome (second_of contract) (λ sustained. Fills sustained before.second after.second cell.moment
      ((cell.value == number) && charges_second verdict contract cell.clp))

-- FillsAsCounted holds for the next cell after any history.
abbrev pub CountedCellsFill : Type 0
CountedCellsFill = (contracts : List Contract) (opening : ℕ → Buckets)
    → (history : List NamedCell) (cell : NamedCell)
    → (number : ℕ) (contract : Contract) → numbered contracts number ≡ Some contract
    → FillsAsCounted contract
    (buckets_after_cells contracts opening history number)
    (buckets_after_cells contracts opening (history ++ cell ∷ []) number)
    number cell (verdict_after contracts opening history cell)

-- The burst bound of ITU-T I.371, over a history from any buckets: at most 1 + (d + tau) div T of the cells that
-- charged one bucket of a contract have moments within any span of d ticks.
abbrev pub HistoriesBoundBursts : Type 0
HistoriesBoundBursts = (contracts : List Contract) (opening : ℕ → Buckets)
    → (earliest : ℕ) (history : List NamedCell) → GoesOn earliest (moments_of history)
    → (number : ℕ) (contract : Contract) → numbered contracts number ≡ Some contract
    → (first span : ℕ)
    → IsBounded first span (peak_charges number (judged contracts opening [] history)) (peak_of contract)
    × IfSome (second_of contract) (IsBounded first span (sustained_charges number contract (judged contracts opening [] history)))

-- One more cell in one of several tallies adds one to their total.
abbrev pub TotalsCount : Type 0
TotalsCount = (tallies : List Tally) (place : ℕ) (tally : Tally) (verdict : Verdict)
    → slice_get tallies place ≡ Some tally
    → total (slice_set tallies place (counted tally verdict)) ≡ counted (total tallies) verdict

-- The total of two lists of tallies is the sum of both totals.
abbrev pub TotalsJoin : Type 0
TotalsJoin = (tallies others : List Tally)
    → total (tallies ++ others) ≡ plus (total tallies) (total others)

-- A tally is part of its sum with another one, and of the total of a list that has it.
pub record PartsAreWithin : Type 0 where
  pub plus : (one other : Tally) → IsPartTally one (plus one other) × IsPartTally other (plus one other)
  pub total : (tallies : List Tally) (place : ℕ) (tally : Tally)
      → slice_get tallies place ≡ Some tally → IsPartTally tally (total tallies)

-- The tally of two lists of verdicts is the sum of both tallies. One more verdict at the end adds one. The tally has as
-- many cells as there are verdicts.
pub record VerdictsCount : Type 0 where
  pub join : (verdicts others : List Verdict)
      → tally_of (verdicts ++ others) ≡ plus (tally_of verdicts) (tally_of others)
  pub next : (verdicts : List Verdict) (verdict : Verdict)
      → tally_of (verdicts ++ verdict ∷ []) ≡ counted (tally_of verdicts) verdict
  pub cells : (verdicts : List Verdict) → cells_in (tally_of verdicts) ≡ length verdicts

-- Adding entries to counts adds the tally of their verdicts.
abbrev pub EntriesCount : Type 0
EntriesCount = (counts : Tally) (entries : List Entry)
    → tallied counts entries ≡ plus counts (tally_of (map (λ entry. entry.verdict) entries))
