-- The connection has another program, or the desk refuses.
use Rattle.std.proofs.Common.{ap, length, refl, sym, ◌∙◌}
use Rattle.std.proofs.lemmas.Result.{on_ok_weaker}
use Rattle.upc_cell.specs.declared.side.Side.{Side}
use Rattle.text_card.specs.Replies.{reply_text}
use Rattle.card_core.specs.declared.reply.Reply.TheVariants.{Refused, Reloaded}
use Rattle.text_script.specs.ScriptCommands.{reload}
use Rattle.cmd_ports.proofs.DeskLemmas.{adds-some, named-reply, replied}
use Rattle.cmd_ports.proofs.script_desk.ScriptDesk.reload.Goals as goal

pub returns-in-Err : goal.returns-in-Err
returns-in-Err g c =
    let command = reload c.args.vc c.args.number in
    let names = c.args.self.now.names in
    on_ok_weaker c.add_desk_fault.result (λ added.
    let printed = adds-some _ _ _ added in
    named-reply c.args.card.now.side command c.args.number c.in-Some.program names names _ _ (sym c.named.ensures ∙ c.in-Some.is)
    (replied c.args.card.now.side command (Refused c.in-Err.fault) names printed.0 _ _ c.in-Err.ensures refl printed.2 printed.1)) c.add_desk_fault.ensures

pub returns : goal.returns
returns g c =
    let command = reload c.args.vc c.args.number in
    let names = c.args.self.now.names in
    on_ok_weaker c.add_reloaded.result (λ added.
    named-reply c.args.card.now.side command c.args.number c.in-Some.program names names _ _ (sym c.named.ensures ∙ c.in-Some.is)
    (replied c.args.card.now.side command (Reloaded c.in-Some.program) names _ _ _ tt refl (ap (λ (s : Side). reply_text s command (length names) (Reloaded c.in-Some.program)) (sym c.side.ensures)) added)) c.add_reloaded.ensures
