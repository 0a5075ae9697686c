-- The lines of `police` about cells: the number of the record, the moment, the connection, the cell loss priority, the
-- value that the program gave, the verdict, and by how much the cell comes too early for which bucket.
use Rattle.std.specs.Prelude.{ℕ, nat_lt, Bool, true, false, if◌then◌else◌, List, ◌++◌, codes, decimal, Option, Some, None, option_and_then}
use Rattle.card_core.specs.World.{Connection, World, connection_in}
use Rattle.card_core.specs.declared.answer.Answer.{Answer}
use Rattle.card_core.specs.declared.answer.Answer.TheVariants as answer
use Rattle.captures_text.specs.declared.line_choice.LineChoice.{LineChoice}
use Rattle.captures_text.specs.declared.line_choice.LineChoice.TheVariants as lines
use Rattle.leaky.specs.Excess.{bucket_number, excess_at}
use Rattle.leaky.specs.declared.excess.Excess.{Excess}
use Rattle.leaky.specs.declared.verdict.Verdict.{Verdict}
use Rattle.leaky.specs.declared.verdict.Verdict.TheVariants as verdict
use Rattle.line_record.specs.History.{buckets_after_cells, empty_buckets, last_moment, numbered}
use Rattle.upc_cell.specs.declared.side.Side.{Side}
use Rattle.upc_cell.specs.declared.vc.Vc.{Vc}
use Rattle.text_script.specs.ReplyTexts.{channel_name}
use Rattle.cmd_police.specs.RuleColumn.{ShownRules, heading_end}
use Rattle.cmd_setups.specs.Columns.{in_column}

-- The heading of the lines about cells.
abbrev pub verdict_heading : ShownRules → List ℕ
verdict_heading rules = codes "record\tmoment\tvpi\tvci\tclp\tvalue\tverdict\tbucket\texcess" ++ heading_end rules

-- The word for a verdict, as `upc run` prints it.
abbrev pub verdict_word : Verdict → List ℕ
verdict_word verdict.Pass = codes "pass"
verdict_word verdict.Tag = codes "tag"
verdict_word verdict.Discard = codes "discard"
verdict_word verdict.Refuse = codes "refuse"

-- The excess of the next cell of a connection with this value, cell loss priority and moment: that of the contract with the number of the
-- value, from its buckets after the connection's history. There is none if there is no such contract, or if the moment is before that of
-- the last cell.
abbrev pub next_excess : Connection → ℕ → Bool → ℕ → Option Excess
next_excess connection value clp moment =
    if nat_lt moment (last_moment 0 connection.history) then None
    else option_and_then (λ contract. excess_at contract (buckets_after_cells connection.contracts empty_buckets connection.history value) clp moment)
    (numbered connection.contracts value)

-- The excess of a cell that arrives on this connection with this answer. A cell that isn't judged has none.
abbrev pub excess_of_answer : World → Vc → Bool → Answer → Option Excess
excess_of_answer before vc clp (answer.Judged line number moment value program verdict leaving) =
    option_and_then (λ connection. next_excess connection value clp moment) (connection_in before.connections vc)
excess_of_answer before vc clp _ = None

-- The columns for an excess: the number of the bucket, and the ticks.
abbrev pub excess_columns : Option Excess → List ℕ
excess_columns None = codes "-\t-"
excess_columns (Some excess) = in_column (decimal (bucket_number excess.bucket)) ++ decimal excess.ticks

-- The columns for an answer: the value, the verdict or the reason why the cell isn't judged, and the excess.
abbrev pub answer_columns : Answer → Option Excess → List ℕ
answer_columns (answer.Judged line number moment value program verdict leaving) excess =
    in_column (decimal value) ++ (in_column (verdict_word verdict) ++ excess_columns excess)
answer_columns answer.NoConnection excess = codes "-\tNoConnection\t-\t-"
answer_columns answer.Released excess = codes "-\tReleased\t-\t-"
answer_columns answer.Stale excess = codes "-\tStale\t-\t-"
answer_columns (answer.MomentBack last) excess = codes "-\tMomentBack\t-\t-"
answer_columns answer.MomentTooLate excess = codes "-\tMomentTooLate\t-\t-"
answer_columns answer.JournalFull excess = codes "-\tJournalFull\t-\t-"
answer_columns answer.NoMemory excess = codes "-\tNoMemory\t-\t-"

-- The digit for a cell loss priority.
abbrev pub priority_digit : Bool → ℕ
priority_digit clp = if clp then 1 else 0

-- The columns of a cell whose record has this number, which arrived at this moment on this connection of a card of this
-- side with this cell loss priority.
abbrev pub cell_columns : Side → ℕ → ℕ → Vc → Bool → Answer → Option Excess → List ℕ
cell_columns side number moment vc clp given excess =
    in_column (decimal number) ++ (in_column (decimal moment) ++ (in_column (decimal vc.vpi) ++ (in_column (channel_name side vc.vci)
    ++ (in_column (decimal (priority_digit clp)) ++ answer_columns given excess))))

-- Whether the cell passes.
abbrev pub is_pass_answer : Answer → Bool
is_pass_answer (answer.Judged line number moment value program verdict.Pass leaving) = true
is_pass_answer _ = false

-- Whether a cell with this answer has a line.
abbrev pub has_line : LineChoice → Answer → Bool
has_line lines.All given = true
has_line lines.NotPassed given = if is_pass_answer given then false else true
has_line lines.Nothing given = false
