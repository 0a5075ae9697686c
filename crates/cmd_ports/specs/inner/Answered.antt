-- The stored part of an answered cell: its header, and what the line of its answer shows.
use Rattle.std.specs.Prelude.{ℕ, List, [], ◌∷◌, map, replicate, slice_index, Option, Some, None, Result, Ok, Err}
use Rattle.line_record.specs.declared.fault.LineFault.TheVariants.{TooLate, Back, Full, NoMemory as LineNoMemory}
use Rattle.line_record.specs.Tally.{nothing, counted, total}
use Rattle.line_record.specs.declared.tally.Tally.{Tally}
use Rattle.card_core.specs.Sections.{answer_to}
use Rattle.card_core.specs.declared.answer.Answer.{Answer}
use Rattle.card_core.specs.declared.answer.Answer.TheVariants.{Judged, NoConnection, Released, Stale, MomentTooLate, MomentBack, JournalFull, NoMemory}
use Rattle.card_core.specs.declared.answer.Judgement.{Judgement}
use Rattle.card_core.specs.declared.answer.Unjudged.{Unjudged}
use Rattle.card_core.specs.declared.answer.Unjudged.TheVariants as unjudged
use Rattle.cmd_ports.specs.declared.answered.Ruling.{Ruling}
use Rattle.cmd_ports.specs.declared.answered.AnsweredCell.{AnsweredCell}

-- The ruling on a judged cell, or the reason why the cell isn't judged.
abbrev pub decision_kept : Answer → Result Ruling Unjudged
decision_kept (Judged line number moment value program verdict leaving) = Ok (record { program = program; value = value; verdict = verdict })
decision_kept NoConnection = Err unjudged.NoConnection
decision_kept Released = Err unjudged.Released
decision_kept Stale = Err unjudged.Stale
decision_kept MomentTooLate = Err (unjudged.LineFault TooLate)
decision_kept (MomentBack last) = Err (unjudged.LineFault (Back last))
decision_kept JournalFull = Err (unjudged.LineFault Full)
decision_kept NoMemory = Err (unjudged.LineFault LineNoMemory)

-- Octets 0 to 3 of a cell.
abbrev pub header_of : List ℕ → List ℕ
header_of cell = slice_index cell 0 ∷ slice_index cell 1 ∷ slice_index cell 2 ∷ slice_index cell 3 ∷ []

-- The stored part of a cell and its answer.
abbrev pub answered_cell : List ℕ → Answer → AnsweredCell
answered_cell cell answer = record { header = header_of cell; decision = decision_kept answer }

-- A cell with this header and a payload of zeros. No answer shows a payload.
abbrev pub shown_cell : List ℕ → List ℕ
shown_cell header = slice_index header 0 ∷ slice_index header 1 ∷ slice_index header 2 ∷ slice_index header 3 ∷ replicate 48 0

-- The judgement with this ruling. Its other numbers are 0.
abbrev pub judgement_by : Ruling → Judgement
judgement_by ruling = record {
  number = 0;
  moment = 0;
  program = ruling.program;
  value = ruling.value;
  line = 0;
  verdict = ruling.verdict;
}

-- The answer from the stored part of a cell's answer, for a cell with its header.
abbrev pub answer_kept : List ℕ → Result Ruling Unjudged → Answer
answer_kept cell (Ok ruling) = answer_to cell (Ok (judgement_by ruling))
answer_kept cell (Err reason) = answer_to cell (Err reason)

-- The counts of a stored answer: one cell with its verdict if the cell was judged, otherwise none.
abbrev pub ruling_counts : Result Ruling Unjudged → Tally
ruling_counts (Ok ruling) = counted nothing ruling.verdict
ruling_counts (Err reason) = nothing

abbrev pub cell_counts : AnsweredCell → Tally
cell_counts cell = ruling_counts cell.decision

-- The counts of what was stored of a line, if anything was.
abbrev pub stored_counts : Option AnsweredCell → Tally
stored_counts None = nothing
stored_counts (Some cell) = cell_counts cell

-- The counts of several cells.
abbrev pub cells_counts : List AnsweredCell → Tally
cells_counts cells = total (map cell_counts cells)
