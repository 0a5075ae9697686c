-- The cells that were not judged, by reason.
use Rattle.std.specs.Prelude.{ℕ, ◌==◌, if◌then◌else◌, List, [], ◌++◌, codes, decimal}
use Rattle.card_core.specs.declared.answer.Answer.{Answer}
use Rattle.card_core.specs.declared.answer.Answer.TheVariants as answer
use Rattle.captures_text.specs.Tallies.{no_tally, one_more_record}
use Rattle.captures_text.specs.declared.tally.CountAndFirst.{CountAndFirst}
use Rattle.cmd_setups.specs.declared.not_judged.NotJudged.{NotJudged}

-- Each cell was judged.
abbrev pub all_judged : NotJudged
all_judged = record { no_connection = no_tally; back = no_tally; late = no_tally; full = no_tally }

-- After a cell with this answer, whose record has this number. A card answers no cell by another reason.
abbrev pub not_judged_after : NotJudged → ℕ → Answer → NotJudged
not_judged_after before number answer.NoConnection = record before { no_connection = one_more_record before.no_connection number }
not_judged_after before number (answer.MomentBack last) = record before { back = one_more_record before.back number }
not_judged_after before number answer.MomentTooLate = record before { late = one_more_record before.late number }
not_judged_after before number answer.JournalFull = record before { full = one_more_record before.full number }
not_judged_after before number _ = before

-- A comment about cells that were not judged, if there are any.
abbrev pub not_judged_line : CountAndFirst → List ℕ → List ℕ
not_judged_line tally why =
    if tally.count == 0 then []
    else codes "# " ++ (decimal tally.count ++ (codes " not judged: " ++ (why ++ (codes "; first record " ++ (decimal tally.first ++ codes "\n")))))

-- A comment for each reason why cells were not judged.
abbrev pub not_judged_lines : NotJudged → List ℕ
not_judged_lines cells =
    not_judged_line cells.no_connection (codes "no connection")
    ++ (not_judged_line cells.back (codes "a moment before the last one of its connection")
    ++ (not_judged_line cells.late (codes "a moment above 2^62")
    ++ not_judged_line cells.full (codes "a full journal")))
