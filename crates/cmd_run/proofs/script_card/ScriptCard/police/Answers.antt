-- The cell's answer is appended; there is one.
use Rattle.std.proofs.Common.{◌≡◌, ◌∙◌, Ok, Err, Some, ap, option_map, subst, sym}
use Rattle.upc_cell.specs.Connection.{vc_of}
use Rattle.card_core.specs.Sections.{answer_to, unjudged_answer}
use Rattle.text_script.specs.ProgramNames.{number_of_program}
use Rattle.text_card.specs.Replies.{numbered_answer_text}
use Rattle.text_card.proofs.Public.{adds-some}
use Rattle.cmd_run.specs.inner.Policing.{AnswersCell}
use Rattle.cmd_run.proofs.ArrivalLemmas.{number-unjudged, polices-never, polices-printed}
use Rattle.cmd_run.proofs.MovesLemmas.{on-ok}
use Rattle.cmd_run.proofs.script_card.ScriptCard.police.Goals as goal

pub returns-in_default : goal.returns-in_default
returns-in_default c =
    polices-never c.args.self.now c.arrive.new.self c.args.cell.now c.args.moment c.args.answers.now.items
    (subst (λ printed. AnswersCell c.args.self.now c.args.cell.now c.args.moment (option_map (λ t. answer_to c.args.cell.now t) printed) c.arrive.new.self) c.in_default.is c.arrive.ensures)

pub returns-in-Err : goal.returns-in-Err
returns-in-Err c =
    let side = c.shape-side.result.side in
    let given = unjudged_answer c.in-Err.reason in
    let is : c.arrive.result ≡ Some (Err c.in-Err.reason) = let e = c.in-Some.is in let f = c.in-Err.is in cc in
    let answers = subst (λ printed. AnswersCell c.args.self.now c.args.cell.now c.args.moment (option_map (λ t. answer_to c.args.cell.now t) printed) c.arrive.new.self) is c.arrive.ensures in
    on-ok c.add_unjudged.result c.add_unjudged.ensures (λ added.
    let printed = adds-some _ _ _ added in
    polices-printed c.args.self.now c.arrive.new.self side c.args.cell.now c.args.moment given printed.0 _ _
    (ap (λ held. held.core.shape.side) (sym c.self.view_is) ∙ ap (λ shape. shape.side) (sym c.shape-side.ensures)) answers
    (ap (λ n. numbered_answer_text side n (vc_of side c.args.cell.now) given) (number-unjudged c.args.self.now.names c.in-Err.reason)
    ∙ ap (λ vc. numbered_answer_text side 0 vc given) (sym c.vc_at-vc.ensures.connection) ∙ printed.2) printed.1)

pub returns : goal.returns
returns c =
    let side = c.shape-side.result.side in
    let judged = c.in-Ok.judged in
    let given = answer_to c.args.cell.now (Ok judged) in
    let is : c.arrive.result ≡ Some (Ok c.in-Ok.judged) = let e = c.in-Some.is in let f = c.in-Ok.is in cc in
    let answers = subst (λ printed. AnswersCell c.args.self.now c.args.cell.now c.args.moment (option_map (λ t. answer_to c.args.cell.now t) printed) c.arrive.new.self) is c.arrive.ensures in
    let number : c.number_of-number.result ≡ number_of_program c.args.self.now.names judged.program =
    c.number_of-number.ensures ∙ ap (λ held. number_of_program held.names judged.program) c.self-2.view_is
    ∙ ap (λ names. number_of_program names judged.program) answers.0 in
    on-ok c.add_judged.result c.add_judged.ensures (λ added.
    let printed = adds-some _ _ _ added in
    polices-printed c.args.self.now c.arrive.new.self side c.args.cell.now c.args.moment given printed.0 _ _
    (ap (λ held. held.core.shape.side) (sym c.self.view_is) ∙ ap (λ shape. shape.side) (sym c.shape-side.ensures)) answers
    (ap (λ n. numbered_answer_text side n (vc_of side c.args.cell.now) given) (sym number)
    ∙ ap (λ vc. numbered_answer_text side c.number_of-number.result vc given) (sym c.vc_at-vc.ensures.connection) ∙ printed.2) printed.1)
