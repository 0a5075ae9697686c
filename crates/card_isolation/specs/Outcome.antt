-- The outcome of an act, without the values that a card may choose or that its connections share: ids, incarnations,
-- line numbers, and the counts of a line. Instead of an id it has the code that was loaded under it.
use Rattle.std.specs.Prelude.{ℕ, Bool, List, Option, map}
use Rattle.bpf_code.specs.declared.instr.Instr.{Instr}
use Rattle.leaky.specs.declared.contract.Contract.{Contract}
use Rattle.leaky.specs.declared.verdict.Verdict.{Verdict}
use Rattle.line_record.specs.declared.entry.Entry.{Entry}
use Rattle.line_record.specs.Piece.{PieceView}
use Rattle.card_core.specs.declared.answer.Answer.{Answer}
use Rattle.card_core.specs.declared.answer.Answer.TheVariants.{Judged}
use Rattle.card_core.specs.World.{Loading, code_in}

-- An entry of a journal without the id of its program: the moment of arrival, whether the CLP was 1, the value that the
-- program gave, and the verdict.
pub record SeenEntry : Type 0 where
  pub moment : ℕ
  pub clp : Bool
  pub value : ℕ
  pub verdict : Verdict

-- The entry without the id of its program.
abbrev pub seen : Entry → SeenEntry
seen entry = record { moment = entry.moment; clp = entry.clp; value = entry.value; verdict = entry.verdict }

-- The act was done; or it was done, and the earlier program had this code; or it returned a piece with these contracts
-- and entries; or the cell, which arrived at this moment, was judged with this value from a program of this code, with
-- this verdict, and leaves in this form; or the cell wasn't judged and got this answer.
pub data Outcome : Type 0 where
  done : Outcome
  named_before : Option (List Instr) → Outcome
  handed_out : List Contract → List SeenEntry → Outcome
  was_judged : ℕ → ℕ → Option (List Instr) → Verdict → List ℕ → Outcome
  was_not_judged : Answer → Outcome

-- The outcome of a cell with this answer, if these codes were loaded.
abbrev pub outcome_of : List Loading → Answer → Outcome
outcome_of codes (Judged line number moment value program verdict cell) =
    was_judged moment value (code_in codes program) verdict cell
outcome_of codes answer = was_not_judged answer

-- The outcome of a cut or a release that returns this piece.
abbrev pub outcome_of_piece : PieceView → Outcome
outcome_of_piece piece = handed_out piece.contracts (map seen piece.entries)
