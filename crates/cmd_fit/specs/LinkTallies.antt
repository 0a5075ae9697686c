-- The links of a capture, from its records.
use Rattle.std.specs.Prelude.{◌+◌, ◌-◌, ◌^◌, min, nat_lt, if◌then◌else◌, ℕ, List, [], ◌∷◌, length, Option, Some, None, Result, Ok, Err}
use Rattle.captures.specs.Links.{same_link}
use Rattle.captures.specs.declared.content.NoCell.{NoCell}
use Rattle.captures.specs.declared.link.Link.{Link}
use Rattle.captures.specs.declared.reader.SkippedBlock.{SkippedBlock}
use Rattle.captures.specs.declared.reader.Record.{Record}
use Rattle.captures_text.specs.ReadingSummaries.{empty_summary, with_marked, with_skipped_block, without_cell}
use Rattle.captures_text.specs.Tallies.{no_tally, one_more_record}
use Rattle.captures_text.specs.declared.reading_summary.ReadingSummary.{ReadingSummary}
use Rattle.captures_text.specs.declared.tally.CountAndFirst.{CountAndFirst}
use Rattle.cmd_fit.specs.declared.link_tally.LinkTally.{LinkTally}

-- How many links may have a row.
abbrev pub most_links : ℕ
most_links = 4096

-- A link that has the cell of this record alone.
abbrev pub opening_tally : Record → LinkTally
opening_tally record_read = record {
  cells = 1;
  first = record_read.time;
  last = record_read.time;
  losses = min record_read.marks.losses (2 ^ 64 - 1);
}

-- The tally with one more cell, that of this record. The last cell is that of the last record, whatever its time is.
abbrev pub one_more_cell : LinkTally → Record → LinkTally
one_more_cell tally record_read = record tally {
  cells = min (tally.cells + 1) (2 ^ 64 - 1);
  last = record_read.time;
  losses = min (tally.losses + record_read.marks.losses) (2 ^ 64 - 1);
}

-- What the records so far give: a row for each link, in order of its first cell; the cells of links for which there was no room any more; and
-- what was passed over.
pub record LinksState : Type 0 where
  pub rows : List (Link × LinkTally)
  pub left_out : CountAndFirst
  pub summary : ReadingSummary

-- Before the first record.
abbrev pub no_links : LinksState
no_links = record { rows = []; left_out = no_tally; summary = empty_summary }

-- What is known of this link, if it has a row.
abbrev pub link_tally_of : Link → List (Link × LinkTally) → Option LinkTally
link_tally_of link [] = None
link_tally_of link (row ∷ rows) = if same_link link row.0 then Some row.1 else link_tally_of link rows

-- The rows with this one: in the place of the link's earlier one, or at the end.
abbrev pub with_row : Link → LinkTally → List (Link × LinkTally) → List (Link × LinkTally)
with_row link tally [] = (link, tally) ∷ []
with_row link tally (row ∷ rows) = if same_link link row.0 then (row.0, tally) ∷ rows else row ∷ with_row link tally rows

-- What is known of a record's link after its cell, by what was known before. None: the link has no row, and there is no room for one more.
abbrev pub tally_after : List (Link × LinkTally) → Record → Option LinkTally → Option LinkTally
tally_after rows record_read (Some tally) = Some (one_more_cell tally record_read)
tally_after rows record_read None = if nat_lt (length rows) most_links then Some (opening_tally record_read) else None

-- The state after the cell of a record, of whose link this is known then. None: the link has no row.
abbrev pub links_cell_with : LinksState → Record → Option LinkTally → LinksState
links_cell_with state record_read (Some tally) = record state { rows = with_row record_read.link tally state.rows }
links_cell_with state record_read None = record state { left_out = one_more_record state.left_out record_read.number }

-- The state after the cell of a record.
abbrev pub links_cell : LinksState → Record → LinksState
links_cell state record_read =
    links_cell_with state record_read (tally_after state.rows record_read (link_tally_of record_read.link state.rows))

-- The state after a record, by what the record holds.
abbrev pub links_content : LinksState → Record → Result (List ℕ) NoCell → LinksState
links_content state record_read (Ok cell) = links_cell state record_read
links_content state record_read (Err why) = record state { summary = without_cell state.summary why record_read.number }

-- The state after a record. Its marks are counted, whatever it holds.
abbrev pub links_record : LinksState → Record → LinksState
links_record state record_read =
    links_content (record state { summary = with_marked state.summary record_read.marks record_read.number }) record_read record_read.content

-- The state after a block or a packet without a record.
abbrev pub links_block : LinksState → SkippedBlock → LinksState
links_block state block = record state { summary = with_skipped_block state.summary block }

-- The state after a frame of which this is given.
abbrev pub links_given : LinksState → Result Record SkippedBlock → LinksState
links_given state (Ok record_read) = links_record state record_read
links_given state (Err block) = links_block state block

-- The state after frames of which this is given, in order.
abbrev pub links_after : LinksState → List (Result Record SkippedBlock) → LinksState
links_after state [] = state
links_after state (given ∷ frames) = links_after (links_given state given) frames
