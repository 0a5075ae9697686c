-- What the comments at the end of a text are about: the records that were passed over, by reason; blocks and packets without a record; and
-- records with marks.
use Rattle.std.specs.Prelude.{◌+◌, ℕ, List, [], ◌∷◌, ◌++◌, codes, decimal, replicate, slice_index_or, slice_set}
use Rattle.captures.specs.declared.content.NoCell.{NoCell}
use Rattle.captures.specs.declared.content.NoCell.TheVariants.{OtherType, Errored, CutShort}
use Rattle.captures.specs.declared.marks.Marks.{Marks}
use Rattle.captures.specs.declared.reader.SkippedBlock.{SkippedBlock}
use Rattle.captures_text.specs.MarkedRecords.{mark_lines, no_marks, with_marks}
use Rattle.captures_text.specs.SkippedBlocks.{block_lines, no_blocks, one_more_block}
use Rattle.captures_text.specs.Tallies.{no_tally, one_more_record, tally_line}
use Rattle.captures_text.specs.declared.reading_summary.ReadingSummary.{ReadingSummary}
use Rattle.captures_text.specs.declared.tally.CountAndFirst.{CountAndFirst}

-- The summary before any record.
abbrev pub empty_summary : ReadingSummary
empty_summary = record {
  other_types = replicate 128 no_tally;
  errored = no_tally;
  cut_short = no_tally;
  back = no_tally;
  other_link = no_tally;
  blocks = no_blocks;
  marks = no_marks;
}

-- The tallies, one for each type from 0 on, with one record more of this type. The record has this number.
abbrev pub with_other_type : List CountAndFirst → ℕ → ℕ → List CountAndFirst
with_other_type tallies kind number = slice_set tallies kind (one_more_record (slice_index_or tallies kind no_tally) number)

-- A block or a packet more without a record.
abbrev pub with_skipped_block : ReadingSummary → SkippedBlock → ReadingSummary
with_skipped_block summary block = record summary { blocks = one_more_block summary.blocks block.what block.at }

-- A record with these marks and this number.
abbrev pub with_marked : ReadingSummary → Marks → ℕ → ReadingSummary
with_marked summary marks number = record summary { marks = with_marks summary.marks marks number }

-- One record more without a cell, with this number.
abbrev pub without_cell : ReadingSummary → NoCell → ℕ → ReadingSummary
without_cell summary (OtherType kind) number = record summary { other_types = with_other_type summary.other_types kind number }
without_cell summary Errored number = record summary { errored = one_more_record summary.errored number }
without_cell summary (CutShort octets) number = record summary { cut_short = one_more_record summary.cut_short number }

-- A comment about records of this type.
abbrev pub other_type_line : ℕ → CountAndFirst → List ℕ
other_type_line kind tally = tally_line tally (codes "type " ++ decimal kind ++ codes ", not ATM")

-- A comment for each type of which records were passed over, in order, from the type with this number on.
abbrev pub other_type_lines : ℕ → List CountAndFirst → List ℕ
other_type_lines kind [] = []
other_type_lines kind (tally ∷ tallies) = other_type_line kind tally ++ other_type_lines (kind + 1) tallies

-- A comment for each reason why records were passed over.
abbrev pub reason_lines : ReadingSummary → List ℕ
reason_lines summary =
    other_type_lines 0 summary.other_types
    ++ tally_line summary.errored (codes "received with an error")
    ++ tally_line summary.cut_short (codes "fewer than 52 octets of a cell")
    ++ tally_line summary.back (codes "a time before that of an earlier cell")
    ++ tally_line summary.other_link (codes "another link")

-- The comments.
abbrev pub summary_lines : ReadingSummary → List ℕ
summary_lines summary = reason_lines summary ++ block_lines summary.blocks ++ mark_lines summary.marks
