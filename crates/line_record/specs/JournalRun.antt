-- Journal entries that lead from one state of a line to another.
use Rattle.std.specs.Prelude.{◌≡◌, ℕ, Some, List, [], ◌∷◌, length}
use Rattle.leaky.specs.declared.contract.Contract.{Contract}
use Rattle.leaky.specs.declared.levels.Levels.{Levels}
use Rattle.leaky.specs.Moments.{GoesOn}
use Rattle.leaky.specs.Contract.{Buckets}
use Rattle.leaky.specs.KeptState.{Agrees, IsChargedBy}
use Rattle.line_record.specs.declared.entry.Entry.{Entry}
use Rattle.line_record.specs.declared.state.State.{State}
use Rattle.line_record.specs.declared.tally.Tally.{Tally}
use Rattle.line_record.specs.Tally.{counted}
use Rattle.line_record.specs.History.{numbered, moments_of, last_moment, named_cells_of, buckets_after_cells, judged}

-- The counts after these entries are added.
abbrev pub tallied : Tally → List Entry → Tally
tallied counts [] = counts
tallied counts (entry ∷ later) = tallied (counted counts entry.verdict) later

-- The levels of the state represent these buckets, by contract number, and no bucket was charged after the state's last
-- moment.
pub record KeepsBuckets (state : State) (buckets : ℕ → Buckets) : Type 0 where
  pub agrees : (number : ℕ) (levels : Levels)
      → numbered state.levels.items number ≡ Some levels → Agrees levels (buckets number)
  pub charged : (number : ℕ) (levels : Levels)
      → numbered state.levels.items number ≡ Some levels
      → IsChargedBy (buckets number) state.last

-- The entries are a run from the start to the end under the contracts. Their moments start at or after the start's last
-- moment and never go back. From any buckets that the start represents, the verdicts are those of the contracts, and
-- the end represents the buckets that are left. Both states have levels for each contract. The last moment and the
-- counts of the end are those of the start with the entries added.
pub record IsJournalRun (contracts : List Contract) (start : State) (entries : List Entry) (end : State) : Type 0 where
  pub opens : length start.levels.items ≡ length contracts
  pub closes : length end.levels.items ≡ length contracts
  pub moments : GoesOn start.last (moments_of (named_cells_of entries))
  pub verdicts : (opening : ℕ → Buckets) → KeepsBuckets start opening
      → entries ≡ judged contracts opening [] (named_cells_of entries)
  pub levels : (opening : ℕ → Buckets) → KeepsBuckets start opening
      → KeepsBuckets end (buckets_after_cells contracts opening (named_cells_of entries))
  pub last : end.last ≡ last_moment start.last (named_cells_of entries)
  pub counts : end.counts ≡ tallied start.counts entries
