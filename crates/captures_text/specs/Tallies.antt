-- Tallies of records, or of other things in a capture, and the comments about them.
use Rattle.std.specs.Prelude.{◌+◌, ◌-◌, ◌^◌, ◌==◌, min, Bool, if◌then◌else◌, ℕ, List, [], ◌++◌, codes, decimal}
use Rattle.captures_text.specs.declared.tally.CountAndFirst.{CountAndFirst}
use Rattle.text_words.specs.FaultLines.{line}

-- One record more, with this number. The first record's number stays.
abbrev pub one_more_record : CountAndFirst → ℕ → CountAndFirst
one_more_record tally number = record {
  count = min (tally.count + 1) (2 ^ 64 - 1);
  first = if tally.count == 0 then number else tally.first;
}

-- The same if this holds.
abbrev pub one_more_if : CountAndFirst → Bool → ℕ → CountAndFirst
one_more_if tally holds number = if holds then one_more_record tally number else tally

-- No record yet.
abbrev pub no_tally : CountAndFirst
no_tally = record { count = 0; first = 0 }

-- The beginning of a comment: how many records were passed over.
abbrev pub skipped_count : CountAndFirst → List ℕ
skipped_count tally = codes "# " ++ decimal tally.count ++ codes " passed over: "

-- The end of a comment: the number of the first record.
abbrev pub first_record_text : CountAndFirst → List ℕ
first_record_text tally = line (codes "; first record " ++ decimal tally.first)

-- A comment about records that were passed over, if there are any.
abbrev pub tally_line : CountAndFirst → List ℕ → List ℕ
tally_line tally why = if tally.count == 0 then [] else skipped_count tally ++ why ++ first_record_text tally
