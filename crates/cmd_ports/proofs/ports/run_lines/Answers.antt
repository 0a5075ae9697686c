-- Before the first write, the empty text is a prefix of some text. Then the whole text is written, or a prefix of it.
use Rattle.std.proofs.Common.{sym, ◌∙◌}
use Rattle.port_card.specs.Closing.{lines_total}
use Rattle.cmd_ports.proofs.CardTexts.{last-front, last-given, ok-of}
use Rattle.text_io.specs.declared.ending.Done.TheVariants.{Whole}
use Rattle.text_io.proofs.Public.{nothing-begins}
use Rattle.cmd_ports.specs.PortsText.{IsCardText}
use Rattle.cmd_ports.proofs.SomeAnswers.{some-card}
use Rattle.cmd_ports.proofs.ports.run_lines.Goals as goal

pub returns-in_default-clause-front : goal.returns-in_default-clause-front
returns-in_default-clause-front g c = λ _ lines are.
    let shape = c.args.script.now.shape in
    let some = some-card shape lines in
    nothing-begins (IsCardText shape lines) (g.O.Output.held c.args.output.now) (some.0, Whole, some.1)

pub returns-then-is_err-clause-front : goal.returns-then-is_err-clause-front
returns-then-is_err-clause-front g c = λ _ lines are.
    let shape = c.args.script.now.shape in
    let some = some-card shape lines in
    nothing-begins (IsCardText shape lines) (g.O.Output.held c.args.output.now) (some.0, Whole, some.1)

pub returns-clause-text : goal.returns-clause-text
returns-clause-text g c =
    let shape = c.args.script.now.shape in
    let octets = c.args.script.now.lines.items in
    let counts = lines_total c.in-Ok.closing.lines.items in
    let more = ok-of c.add_closing.result (sym c.is_err.ensures.value ∙ c.if-is_err.false) c.add_closing.ensures in
    last-given g.O.Output.is_known shape octets _ _ c.new-answers.result.items c.answer_with_own_ledgers.new.answers.items c.add_closing.new.answers.items counts c.in-Ok.closing.uneven
    c.done_after.result c.give_last.result c.in-Ok.ensures.answers c.new-answers.ensures.items c.in-Ok.ensures.within more c.give_last.ensures.given c.give_last.ensures.done c.done_after.ensures

pub returns-clause-front : goal.returns-clause-front
returns-clause-front g c = λ known.
    let shape = c.args.script.now.shape in
    let octets = c.args.script.now.lines.items in
    let counts = lines_total c.in-Ok.closing.lines.items in
    let more = ok-of c.add_closing.result (sym c.is_err.ensures.value ∙ c.if-is_err.false) c.add_closing.ensures in
    last-front shape octets _ _ c.new-answers.result.items c.answer_with_own_ledgers.new.answers.items c.add_closing.new.answers.items counts c.in-Ok.closing.uneven
    c.give_last.result c.in-Ok.ensures.answers c.new-answers.ensures.items c.in-Ok.ensures.within more (c.give_last.ensures.front known)
