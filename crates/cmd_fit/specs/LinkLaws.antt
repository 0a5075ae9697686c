-- Laws of `links`, by whole lists of records.
use Rattle.std.specs.Prelude.{◌≡◌, ◌-◌, ◌^◌, ◌≤◌, ◌⊎◌, min, ℕ, List, [], ◌∷◌, ◌++◌, length, filter, flat_map, sum_by, Result, Ok, Err}
use Rattle.captures.specs.Links.{same_link}
use Rattle.captures.specs.declared.content.NoCell.{NoCell}
use Rattle.captures.specs.declared.link.Link.{Link}
use Rattle.captures.specs.declared.reader.SkippedBlock.{SkippedBlock}
use Rattle.captures.specs.declared.reader.Record.{Record}
use Rattle.cmd_fit.specs.LinkTallies.{links_after, most_links, no_links}
use Rattle.cmd_fit.specs.declared.link_tally.LinkTally.{LinkTally}

-- The record, if it holds a cell.
abbrev pub if_cell : Record → Result (List ℕ) NoCell → List Record
if_cell record_read (Ok cell) = record_read ∷ []
if_cell record_read (Err why) = []

-- The record of a frame, if it holds a cell.
abbrev pub cell_record : Result Record SkippedBlock → List Record
cell_record (Ok record_read) = if_cell record_read record_read.content
cell_record (Err block) = []

-- The records with a cell of this link, in order.
abbrev pub records_of : Link → List (Result Record SkippedBlock) → List Record
records_of link frames = filter (λ record_read. same_link link record_read.link) (flat_map cell_record frames)

-- The rows of this link.
abbrev pub rows_of : Link → List (Link × LinkTally) → List (Link × LinkTally)
rows_of link rows = filter (λ row. same_link link row.0) rows

-- What is known of a link whose cells these records have: how many they are, how many records were lost before them in all, each as far as
-- 64 bits hold it, and the times of the first record and of the last.
pub record IsTallyOf (records : List Record) (tally : LinkTally) : Type 0 where
  pub cells : tally.cells ≡ min (length records) (2 ^ 64 - 1)
  pub losses : tally.losses ≡ min (sum_by (λ (it : Record). it.marks.losses) records) (2 ^ 64 - 1)
  pub oldest : Record
  pub later : List Record
  pub begins : records ≡ oldest ∷ later
  pub first : tally.first ≡ oldest.time
  pub earlier : List Record
  pub newest : Record
  pub ends : records ≡ earlier ++ newest ∷ []
  pub last : tally.last ≡ newest.time

-- These are all rows of a link whose cells these records have, among this number of rows: the one that says what is
-- known of it; or none, if it has no cell, or if there is no room for one more row.
abbrev pub HasRow : List Record → ℕ → List (Link × LinkTally) → Type 0
HasRow records count [] = (records ≡ []) ⊎ (count ≡ most_links)
HasRow records count (row ∷ []) = IsTallyOf records row.1
HasRow records count (row ∷ other ∷ rows) = ⊥

-- Each link of a cell has one row, which says what its records say, unless 4096 other links have one. No other link has a row.
abbrev pub LinksAreCounted : Type 0
LinksAreCounted = (frames : List (Result Record SkippedBlock)) (link : Link) → let rows = (links_after no_links frames).rows in
    HasRow (records_of link frames) (length rows) (rows_of link rows)

-- At most 4096 links have a row.
abbrev pub RowsAreFew : Type 0
RowsAreFew = (frames : List (Result Record SkippedBlock)) → length (links_after no_links frames).rows ≤ most_links
