-- The comments about a whole run: how long a tick is, and from which record on verdicts may be wrong.
use Rattle.std.specs.Prelude.{ℕ, ◌==◌, if◌then◌else◌, List, [], ◌++◌, codes, decimal}
use Rattle.captures_text.specs.declared.reading_summary.ReadingSummary.{ReadingSummary}
use Rattle.captures_text.specs.declared.tally.CountAndFirst.{CountAndFirst}

-- The comment about the tick, which has this many nanoseconds.
abbrev pub tick_comment : ℕ → List ℕ
tick_comment nanoseconds = codes "# a tick is " ++ decimal nanoseconds ++ codes " ns\n"

-- The comment about lost records, if there are any. A cell that was lost filled no bucket here: a later cell may pass
-- here and be refused on the link, and then one after it may pass there and be refused here.
abbrev pub loss_comment : CountAndFirst → List ℕ
loss_comment losses =
    if losses.count == 0 then []
    else codes "# verdicts from record " ++ (decimal losses.first ++ codes " on may be wrong: cells before it may be lost\n")

-- Both, in this order.
abbrev pub run_comments : ℕ → ReadingSummary → List ℕ
run_comments nanoseconds summary = tick_comment nanoseconds ++ loss_comment summary.marks.losses
