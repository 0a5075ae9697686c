-- The records with marks, by mark, and the comments about them.
use Rattle.std.specs.Prelude.{◌==◌, nat_lt, if◌then◌else◌, ℕ, List, [], ◌++◌, codes, decimal}
use Rattle.captures.specs.Marks.{has_mark}
use Rattle.captures.specs.declared.marks.Marks.{Marks}
use Rattle.captures_text.specs.Tallies.{first_record_text, no_tally, one_more_if}
use Rattle.captures_text.specs.declared.marked.MarkTallies.{MarkTallies}
use Rattle.captures_text.specs.declared.tally.CountAndFirst.{CountAndFirst}

-- No record yet.
abbrev pub no_marks : MarkTallies
no_marks = record { losses = no_tally; truncated = no_tally; lost_octet = no_tally; header_corrected = no_tally; crc_error = no_tally }

-- One record more with each of these marks that it has.
abbrev pub with_each_mark : MarkTallies → Marks → ℕ → MarkTallies
with_each_mark tallies marks number = record {
  losses = one_more_if tallies.losses (nat_lt 0 marks.losses) number;
  truncated = one_more_if tallies.truncated marks.truncated number;
  lost_octet = one_more_if tallies.lost_octet marks.lost_octet number;
  header_corrected = one_more_if tallies.header_corrected marks.header_corrected number;
  crc_error = one_more_if tallies.crc_error marks.crc_error number;
}

-- One record more, with this number and these marks.
abbrev pub with_marks : MarkTallies → Marks → ℕ → MarkTallies
with_marks tallies marks number = if has_mark marks then with_each_mark tallies marks number else tallies

-- A comment about records with a mark, if there are any.
abbrev pub mark_line : CountAndFirst → List ℕ → List ℕ
mark_line tally what = if tally.count == 0 then [] else codes "# " ++ decimal tally.count ++ what ++ first_record_text tally

-- A comment for each mark of a first header.
abbrev pub header_mark_lines : MarkTallies → List ℕ
header_mark_lines tallies =
    mark_line tallies.losses (codes " with losses before them") ++ mark_line tallies.truncated (codes " cut off by the card")

-- A comment for each mark of a multi-channel header.
abbrev pub channel_mark_lines : MarkTallies → List ℕ
channel_mark_lines tallies =
    mark_line tallies.lost_octet (codes " with a lost octet")
    ++ mark_line tallies.header_corrected (codes " with a corrected header")
    ++ mark_line tallies.crc_error (codes " with a wrong CRC-10")

-- A comment for each mark.
abbrev pub mark_lines : MarkTallies → List ℕ
mark_lines tallies = header_mark_lines tallies ++ channel_mark_lines tallies
