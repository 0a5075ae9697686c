-- If the script can't run, the text is that of the reading. Otherwise the reading printed nothing, and the text is that
-- of the run.
use Rattle.std.proofs.Common.{◌≡◌, ℕ, List, [], Ok, rules, subst}
use Rattle.std.proofs.lemmas.Result.{IfOk-weaker, on_err_weaker}
use Rattle.text_io.specs.Devices.{Adds, TakesEnough}
use Rattle.text_io.specs.Limits.{most_ahead}
use Rattle.text_io.specs.declared.ending.Done.{Done}
use Rattle.text_io.specs.declared.ending.Done.TheVariants.{Whole}
use Rattle.cmd_ports.specs.PortsText.{IsReadingText, unread}
use Rattle.cmd_ports.proofs.PortsTexts.{WasRead, broken-front, ended-left, ended-text, ran-front, ran-left, ran-text, was-read}
use Rattle.cmd_ports.proofs.ports.run_ports_with.Goals as goal

pub returns-in-Ok-Whole : goal.returns-in-Ok-Whole
returns-in-Ok-Whole g c =
    let octets = g.I.Input.rest c.args.input.now in
    let left = g.I.Input.rest c.answer_lines.new.input in
    let held = g.O.Output.held c.args.output.now in
    let mid = g.O.Output.held c.answer_lines.new.output in
    let new = g.O.Output.held c.run_lines.new.output in
    let Held = g.O.Output.is_known in
    let script = c.answer_lines.new.machine in
    let whole : c.answer_lines.result ≡ Ok Whole = search rules in
    let was : g.I.Input.is_known → WasRead Held octets held mid script.shape script.lines.items = λ known.
    was-read Held octets held mid script.is_open script.shape script.lines.items
    (c.answer_lines.ensures.world known whole unread tt c.new-script.ensures) in
    record {
      text = λ known holds. IfOk-weaker c.run_lines.result _ _
          (λ done. ran-text Held octets held mid new script.shape script.lines.items done holds (was known)) c.run_lines.ensures.text;
      front = λ known holds.
          on_err_weaker c.run_lines.result (ran-front Held octets held mid new script.shape script.lines.items holds (was known)) (c.run_lines.ensures.front holds);
      left = λ known.
          let none : left ≡ [] = c.answer_lines.ensures.whole known whole in
          IfOk-weaker c.run_lines.result _ _
          (λ done. ran-left Held octets left held mid new script.shape script.lines.items done most_ahead none (was known)) c.run_lines.ensures.text;
      whole = search rules;
      reading = search rules;
      writing = search rules;
    }

pub returns-in-Ok-Ended : goal.returns-in-Ok-Ended
returns-in-Ok-Ended g c =
    let octets = g.I.Input.rest c.args.input.now in
    let left = g.I.Input.rest c.answer_lines.new.input in
    let held = g.O.Output.held c.args.output.now in
    let mid = g.O.Output.held c.answer_lines.new.output in
    record {
      text = λ known holds. ended-text octets held mid
          (subst (λ (d : Done). Adds (λ text. IsReadingText octets text d) held mid) c.in-Ok-Ended.field-0-is
          (c.in-Ok-Ended.ensures.text known holds unread tt c.new-script.ensures));
      front = search rules;
      left = λ known. ended-left most_ahead octets left
          (subst (λ (d : Done). TakesEnough (λ needed. (text : List ℕ) × IsReadingText needed text d) most_ahead octets left)
          c.in-Ok-Ended.field-0-is (c.in-Ok-Ended.ensures.left known unread tt c.new-script.ensures));
      whole = search rules;
      reading = search rules;
      writing = search rules;
    }

pub returns : goal.returns
returns g c =
    record {
      text = search rules;
      front = λ known holds.
          broken-front (g.I.Input.rest c.args.input.now) (g.O.Output.held c.args.output.now) (g.O.Output.held c.answer_lines.new.output)
          (c.in-Err.ensures.front known holds unread tt c.new-script.ensures);
      left = search rules;
      whole = search rules;
      reading = search rules;
      writing = search rules;
    }
