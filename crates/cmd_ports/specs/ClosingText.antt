-- The last line of the text: the totals, or the first uneven line of the closed card.
use Rattle.std.specs.Prelude.{ℕ, List, ◌++◌, codes, decimal, Option, Some, None}
use Rattle.line_record.specs.declared.tally.Tally.{Tally}
use Rattle.text_io.specs.declared.ending.Done.{Done}
use Rattle.text_io.specs.declared.ending.Done.TheVariants.{Whole, Ended}
use Rattle.text_words.specs.FaultLines.{line}
use Rattle.text_script.specs.ReplyTexts.{tally_text}

-- The number of cells with each verdict.
abbrev pub totals_line : Tally → List ℕ
totals_line totals = line (codes "totals" ++ tally_text totals)

-- The counts of the line of this number, from 0, differ from those of the seats.
abbrev pub uneven_line : ℕ → List ℕ
uneven_line number = line (codes "fault card 1 Uneven " ++ decimal number)

-- The totals, or the first uneven line.
abbrev pub closing_text : Tally → Option ℕ → List ℕ
closing_text totals None = totals_line totals
closing_text totals (Some number) = uneven_line number

-- The run ends early if a line is uneven.
abbrev pub done_of : Option ℕ → Done
done_of None = Whole
done_of (Some number) = Ended
