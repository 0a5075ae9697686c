-- A machine's answer to a line within the limits.
use Rattle.std.proofs.Common.{true, sym, ◌∙◌}
use Rattle.std.proofs.lemmas.Result.{IfOk-weaker}
use Rattle.text_io.proofs.PrintingLemmas.{passes-answered}
use Rattle.text_io.proofs.driver.answer_line.Goals as goal

pub returns-clause-passes : goal.returns-clause-passes
returns-clause-passes g c =
    let m = g.M.Machine in
    IfOk-weaker c.answer.result _ _
    (λ turn answered. passes-answered m.rules g.met.M.Machine.is_total c.args.met (m.shows c.args.machine.now) (record { octets = c.args.octets.now; ended = true })
    turn (m.shows c.answer.new.self) c.args.answers.now.items c.answer.new.answers.items
    (sym c.is_over_limits.ensures ∙ c.if-is_over_limits.false) (rw c.before_return.ensures at answered)) c.answer.ensures
