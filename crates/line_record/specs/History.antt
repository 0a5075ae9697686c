-- The verdicts of a connection's contracts. A history is the list of the connection's cells so far, the earliest first;
-- their moments never go back. Each contract has its own two buckets, and only the cells that name the contract meet
-- them.
use Rattle.std.specs.Prelude.{◌≡◌, ℕ, ◌-◌, ◌<◌, ◌⊎◌, ◌==◌, Bool, Option, Some, None, if◌then◌else◌, List, [], ◌∷◌, ◌++◌, map, filter, slice_get}
use Rattle.gen_arena.specs.declared.id.Id.{Id}
use Rattle.leaky.specs.declared.contract.Contract.{Contract}
use Rattle.leaky.specs.declared.verdict.Verdict.{Verdict}
use Rattle.leaky.specs.declared.verdict.Verdict.TheVariants.{Refuse}
use Rattle.leaky.specs.Moments.{GoesOn}
use Rattle.leaky.specs.Contract.{Buckets, opening_buckets, verdict_of}
use Rattle.leaky.specs.Arrivals.{Arrival, buckets_left}
use Rattle.line_record.specs.declared.entry.Entry.{Entry}

-- A cell that arrived: its moment, its cell loss priority, the value that a program gave for it, and that program. The
-- value is the number of a contract, from 1, or names none.
pub record NamedCell : Type 0 where
  pub moment : ℕ
  pub clp : Bool
  pub value : ℕ
  pub program : Id

-- The moments of the cells.
abbrev pub moments_of : List NamedCell → List ℕ
moments_of cells = map (λ cell. cell.moment) cells

-- The moments of the cells never go back.
abbrev pub IsHistory : List NamedCell → Type 0
IsHistory cells = GoesOn 0 (moments_of cells)

-- The moment of the last cell, or this earlier moment if there is no cell.
abbrev pub last_moment : ℕ → List NamedCell → ℕ
last_moment earlier [] = earlier
last_moment earlier (cell ∷ later) = last_moment cell.moment later

-- No connection has a contract of this number: it is 0 or above 4.
abbrev pub IsNoNumber : ℕ → Type 0
IsNoNumber value = (value ≡ 0) ⊎ (4 < value)

-- The item with this number, counted from 1, if there is one.
abbrev pub numbered : {X : Type 0} → List X → ℕ → Option X
numbered items number = if number == 0 then None else slice_get items (number - 1)

-- What a contract sees of a cell: its moment and its cell loss priority.
abbrev pub arrival_of : NamedCell → Arrival
arrival_of cell = record { moment = cell.moment; clp = cell.clp }

-- The arrivals of the cells that name the contract of this number.
abbrev pub arrivals_at : ℕ → List NamedCell → List Arrival
arrivals_at number cells = map arrival_of (filter (λ cell. cell.value == number) cells)

-- For each contract number, both buckets empty.
abbrev pub empty_buckets : ℕ → Buckets
empty_buckets number = opening_buckets

-- The buckets after these arrivals under the contract. Without a contract they are unchanged.
abbrev pub buckets_under : Option Contract → Buckets → List Arrival → Buckets
buckets_under None buckets arrivals = buckets
buckets_under (Some contract) buckets arrivals = buckets_left contract buckets arrivals

-- The buckets of each contract number after a history: the cells that name the contract change them.
abbrev pub buckets_after_cells : List Contract → (ℕ → Buckets) → List NamedCell → ℕ → Buckets
buckets_after_cells contracts opening history number =
    buckets_under (numbered contracts number) (opening number) (arrivals_at number history)

-- The verdict of the contract that the cell names, from these buckets. Refuse if it names none.
abbrev pub named_verdict : Option Contract → Buckets → NamedCell → Verdict
named_verdict None buckets cell = Refuse
named_verdict (Some contract) buckets cell = verdict_of contract buckets cell.clp cell.moment

-- The verdict on the next cell after a history.
abbrev pub verdict_after : List Contract → (ℕ → Buckets) → List NamedCell → NamedCell → Verdict
verdict_after contracts opening history cell =
    named_verdict (numbered contracts cell.value) (buckets_after_cells contracts opening history cell.value) cell

-- A cell with its verdict.
abbrev pub entry_of : NamedCell → Verdict → Entry
entry_of cell verdict =
    record { moment = cell.moment; clp = cell.clp; value = cell.value; program = cell.program; verdict = verdict }

-- An entry without its verdict.
abbrev pub named_cell_of : Entry → NamedCell
named_cell_of entry = record { moment = entry.moment; clp = entry.clp; value = entry.value; program = entry.program }

-- Entries without their verdicts.
abbrev pub named_cells_of : List Entry → List NamedCell
named_cells_of entries = map named_cell_of entries

-- Entries for these cells, which come after a history: each cell with its verdict.
abbrev pub judged : List Contract → (ℕ → Buckets) → List NamedCell → List NamedCell → List Entry
judged contracts opening history [] = []
judged contracts opening history (cell ∷ later) =
    entry_of cell (verdict_after contracts opening history cell)
    ∷ judged contracts opening (history ++ cell ∷ []) later
