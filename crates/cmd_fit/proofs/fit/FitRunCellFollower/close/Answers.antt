use Rattle.std.proofs.Common.{◌++◌, Bool, ap, sym, ◌∙◌}
use Rattle.std.specs.Prelude.{is_some}
use Rattle.captures_text.specs.RunLines.{closing_lines}
use Rattle.captures_text.proofs.Public.{on_done}
use Rattle.cmd_fit.specs.FitText.{FitWorld, fit_closes, fit_lines, heading}
use Rattle.cmd_fit.specs.inner.RulesHeld.{rules_held}
use Rattle.cmd_fit.proofs.LineLemmas.{closing-grows}
use Rattle.cmd_fit.proofs.fit.FitRunCellFollower.close.Goals as goal

pub returns : goal.returns
returns c =
    let run = c.args.self.now in
    let old = c.args.answers.now.items in
    let summary = c.args.summary.now in
    let valued = is_some (rules_held run.values) in
    let one = c.add_heading.new.answers.items in
    let two = c.add_lines.new.answers.items in
    on_done c.add_closing.result _ _ c.add_closing.ensures
    (λ grew world sound is.
    closing-grows old (heading valued) (fit_lines run.side valued run.flows) (closing_lines summary c.args.end)
    one two c.add_closing.new.answers.items
    (c.in_ok-add_heading.ensures ∙ ap (λ (v : Bool). old ++ heading v) c.is_valued-valued.ensures)
    (c.in_ok-add_lines.ensures ∙ ap (λ (v : Bool). one ++ fit_lines run.side v run.flows) c.is_valued-valued.ensures) grew
    ∙ ap (λ (w : FitWorld). old ++ fit_closes w summary c.args.end) (sym is))
