-- A line of the card as its callers see it.
use Rattle.std.specs.Prelude.{◌≡◌, ℕ, ◌^◌, ◌≤◌, ◌<◌, nat_le, nat_lt, min, Bool, false, Option, Some, None, IsSome, if◌then◌else◌, List, [], ◌∷◌, ◌++◌, length, All}
use Rattle.leaky.specs.declared.contract.Contract.{Contract}
use Rattle.line_record.specs.declared.entry.Entry.{Entry}
use Rattle.line_record.specs.declared.state.State.{State}
use Rattle.line_record.specs.declared.owner.Owner.{Owner}
use Rattle.line_record.specs.declared.tally.Tally.{Tally}
use Rattle.line_record.specs.declared.fault.LineFault.{LineFault}
use Rattle.line_record.specs.declared.fault.LineFault.TheVariants.{TooLate, Back, Full}
use Rattle.line_record.specs.Tally.{cells_in}
use Rattle.line_record.specs.JournalRun.{IsJournalRun}

-- The owner (None if the line is free) and its contracts, the greatest number of entries of a journal, the state at the
-- beginning of the journal, its entries, the present state, and whether the line is free with space reserved for a
-- journal.
pub record LineView : Type 0 where
  pub owner : Option Owner
  pub contracts : List Contract
  pub journal : ℕ
  pub start : State
  pub entries : List Entry
  pub state : State
  pub ready : Bool

-- The state of a line without contracts.
abbrev pub resting : Tally → State
resting counts = record { levels = record { items = [] }; last = 0; counts = counts }

-- A line that serves no connection, with these counts.
abbrev pub free_line : ℕ → Tally → Bool → LineView
free_line journal counts ready = record {
  owner = None;
  contracts = [];
  journal = journal;
  start = resting counts;
  entries = [];
  state = resting counts;
  ready = ready;
}

-- The error if no cell of this moment can be judged: the moment is above 2^62, or before that of the last judged cell,
-- or the journal is full, or 2^62 cells were judged on the line.
abbrev pub line_refusal : LineView → ℕ → Option LineFault
line_refusal line moment =
    if nat_lt (2 ^ 62) moment then Some TooLate
    else if nat_lt moment line.state.last then Some (Back line.state.last)
    else if nat_le line.journal (length line.entries) then Some Full
    else if nat_le (2 ^ 62) (cells_in line.state.counts) then Some Full
    else None

-- Whether the journal is full, or has this many entries or more.
abbrev pub is_long : ℕ → LineView → Bool
is_long most line = nat_le (min most line.journal) (length line.entries)

-- The line serves a connection.
abbrev pub IsHeld : LineView → Type 0
IsHeld line = IsSome line.owner

-- The line judged one more cell: its journal has one more entry, its state changed by it, and all else is unchanged.
pub record Gains (old : LineView) (entry : Entry) (new : LineView) : Type 0 where
  pub after : new ≡ record old { entries = old.entries ++ entry ∷ []; state = new.state }
  pub run : IsJournalRun old.contracts old.state (entry ∷ []) new.state

-- The state of a connection without cells: all theoretical arrival times and the last moment are 0.
pub record IsOpening (contracts : List Contract) (before : Tally) (state : State) : Type 0 where
  pub one_each : length state.levels.items ≡ length contracts
  pub levels : All (λ levels. (levels.first ≡ 0) × (levels.second ≡ 0)) state.levels.items
  pub last : state.last ≡ 0
  pub counts : state.counts ≡ before

-- The line now serves this connection under these contracts, with an empty journal and an opening state. The limit of
-- the journal and the counts are those of the old line.
pub record OpensLine (old : LineView) (holder : Owner) (under : List Contract) (new : LineView) : Type 0 where
  pub owner : new.owner ≡ Some holder
  pub contracts : new.contracts ≡ under
  pub journal : new.journal ≡ old.journal
  pub start : new.start ≡ new.state
  pub entries : new.entries ≡ []
  pub state : IsOpening under old.state.counts new.state
  pub ready : new.ready ≡ false

-- Invariant of a line: its entries are a run from the journal's first state to the present one, it has at most four
-- contracts, and its numbers are within their limits. A line that serves a connection has a contract; a free line has
-- no contract and no entry.
pub record IsLine (line : LineView) : Type 0 where
  pub run : IsJournalRun line.contracts line.start line.entries line.state
  pub few : length line.contracts ≤ 4
  pub some : 1 ≤ line.journal
  pub journal : line.journal ≤ 65536
  pub short : length line.entries ≤ line.journal
  pub cells : cells_in line.state.counts ≤ 2 ^ 62
  pub last : line.state.last ≤ 2 ^ 62
  pub held : IsSome line.owner → 0 < length line.contracts
  pub free : line.owner ≡ None → line ≡ free_line line.journal line.state.counts line.ready
