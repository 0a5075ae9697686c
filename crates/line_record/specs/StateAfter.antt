-- The states that agree with a history.
use Rattle.std.specs.Prelude.{◌≡◌, List, length}
use Rattle.leaky.specs.declared.contract.Contract.{Contract}
use Rattle.line_record.specs.declared.state.State.{State}
use Rattle.line_record.specs.History.{NamedCell, last_moment, empty_buckets, buckets_after_cells}
use Rattle.line_record.specs.JournalRun.{KeepsBuckets}

-- The state agrees with this history, which began with empty buckets: it has levels for each contract, they represent
-- the buckets after the history, and the last moment is that of the history. Any counts agree, since they belong to the
-- line.
pub record IsStateAfter (contracts : List Contract) (history : List NamedCell) (state : State) : Type 0 where
  pub one_each : length state.levels.items ≡ length contracts
  pub holds : KeepsBuckets state (buckets_after_cells contracts empty_buckets history)
  pub last : state.last ≡ last_moment 0 history
