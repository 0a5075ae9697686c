-- The answer to a judged cell.
use Rattle.std.specs.Prelude.{ℕ, List, Option, Some, None}
use Rattle.gen_arena.specs.declared.id.Id.{Id}
use Rattle.leaky.specs.declared.verdict.Verdict.{Verdict}
use Rattle.card_core.specs.declared.answer.Answer.{Answer}
use Rattle.card_core.specs.declared.answer.Answer.TheVariants.{Judged}

-- A judged cell: the line that judged it, the number of verdicts of its kind on the line including this one, the moment
-- of arrival, the value that its program gave, that program, its verdict, and the leaving cell.
pub record JudgedView : Type 0 where
  pub line : ℕ
  pub number : ℕ
  pub moment : ℕ
  pub value : ℕ
  pub program : Id
  pub verdict : Verdict
  pub cell : List ℕ

-- The judged cell of an answer, if the answer is Judged.
abbrev pub judged_in_answer : Answer → Option JudgedView
judged_in_answer (Judged line number moment value program verdict cell) =
    Some (record { line = line; number = number; moment = moment; value = value; program = program; verdict = verdict; cell = cell })
judged_in_answer _ = None
