-- An accepted code and each line after it have an answer of `list`. This law is in `specs/` because the implementation of
-- `list` cites it.
use Rattle.std.proofs.Common.{refl}
use Rattle.cmd_list.specs.ListedProgram.{list_texts}
use Rattle.cmd_list.specs.inner.LongestRuns.{some-longest}
use Rattle.cmd_programs.specs.AfterProgram.{AnswersAlways}
use Rattle.text_io.specs.declared.machine.Turn.TheVariants.{Ends}
use Rattle.text_words.specs.FaultLines.{bad_line}

pub list-each : AnswersAlways list_texts
list-each = record {
  first = λ code accepted. let longest = some-longest code accepted in (_, (longest.0, longest.1, refl));
  later = λ code accepted words. (bad_line, Ends, (refl, refl));
}
