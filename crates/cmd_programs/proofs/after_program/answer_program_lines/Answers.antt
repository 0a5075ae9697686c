-- The world before the program line is None.
use Rattle.std.proofs.Common.{None, refl}
use Rattle.std.proofs.lemmas.Result.{IfOk-weaker, on_err_weaker}
use Rattle.cmd_programs.proofs.after_program.answer_program_lines.Goals as goal

pub returns : goal.returns
returns g c =
    let answered = c.answer_lines.ensures in
    record {
      text = λ known held. IfOk-weaker c.answer_lines.result _ _ (λ done each. each None tt refl) (answered.text known held);
      front = λ known held. on_err_weaker c.answer_lines.result (λ each. each None tt refl) (answered.front known held);
      left = λ known. IfOk-weaker c.answer_lines.result _ _ (λ done each. each None tt refl) (answered.left known);
      whole = answered.whole;
      reading = answered.reading;
      writing = answered.writing;
    }
