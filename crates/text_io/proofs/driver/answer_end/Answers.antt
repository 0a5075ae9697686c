-- The octets after the last line feed are the last line.
use Rattle.std.proofs.Common.{◌≡◌, ◌<◌, [], length, sym, ◌∙◌, arith}
use Rattle.std.proofs.lemmas.Result.{IfOk-weaker}
use Rattle.std.proofs.lemmas.Grind.{common_steps}
use Rattle.text_io.proofs.PrintingLemmas.{end-closes, end-over, end-ends, end-goes}
use Rattle.text_io.proofs.driver.answer_end.Goals as goal

pub returns-then-is_over_limits : goal.returns-then-is_over_limits
returns-then-is_over_limits g c =
    let some : 0 < length c.args.octets.now = grind (arith, common_steps) in
    let m = g.M.Machine in
    end-over m.rules c.args.met (m.shows c.args.machine.now) (m.shows c.args.machine.now) c.args.octets.now c.args.answers.now.items c.refuse.new.answers.items some c.requires
    (sym c.is_over_limits.ensures ∙ c.if-is_over_limits.true) c.in_ok-refuse.ensures

pub returns-in-Ends : goal.returns-in-Ends
returns-in-Ends g c =
    let some : 0 < length c.args.octets.now = grind (arith, common_steps) in
    let m = g.M.Machine in
    end-ends m.rules c.args.met (m.shows c.args.machine.now) (m.shows c.answer.new.self) c.args.octets.now c.args.answers.now.items c.answer.new.answers.items some c.requires
    (sym c.is_over_limits.ensures ∙ c.if-is_over_limits.false) (rw c.in-Ends.is at c.in_ok-answer.ensures)

pub returns-in-GoesOn : goal.returns-in-GoesOn
returns-in-GoesOn g c =
    let some : 0 < length c.args.octets.now = grind (arith, common_steps) in
    let m = g.M.Machine in
    IfOk-weaker c.close-in-GoesOn.result _ _
    (λ done closed. end-goes m.rules g.met.M.Machine.is_total c.args.met (m.shows c.args.machine.now) (m.shows c.answer.new.self) c.args.octets.now c.args.answers.now.items c.answer.new.answers.items c.close-in-GoesOn.new.answers.items done some c.requires
    (sym c.is_over_limits.ensures ∙ c.if-is_over_limits.false) (rw c.in-GoesOn.is at c.in_ok-answer.ensures) closed) c.close-in-GoesOn.ensures

pub returns-then-is_empty : goal.returns-then-is_empty
returns-then-is_empty g c =
    let m = g.M.Machine in
    let none : c.args.octets.now ≡ [] = grind (arith, common_steps) in
    IfOk-weaker c.close.result _ _
    (λ done closed. end-closes m.rules c.args.met (m.shows c.args.machine.now) c.args.octets.now c.args.answers.now.items c.close.new.answers.items done none closed) c.close.ensures
