-- The program is retired, or the desk refuses.
use Rattle.std.proofs.Common.{[], refl, sym, ◌∙◌}
use Rattle.std.proofs.lemmas.Result.{on_ok_weaker}
use Rattle.card_core.specs.declared.reply.Reply.TheVariants.{Refused, Retired}
use Rattle.text_script.specs.ScriptCommands.{retire}
use Rattle.cmd_ports.proofs.DeskLemmas.{adds-some, named-reply, replied}
use Rattle.cmd_ports.proofs.script_desk.ScriptDesk.retire.Goals as goal

pub returns-in-Err : goal.returns-in-Err
returns-in-Err g c =
    let command = retire c.args.number in
    let names = c.args.self.now.names in
    on_ok_weaker c.add_desk_fault.result (λ added.
    let printed = adds-some _ _ _ added in
    named-reply c.args.card.now.side command c.args.number c.in-Some.id names names _ _ (sym c.named.ensures ∙ c.in-Some.is)
    (replied c.args.card.now.side command (Refused c.in-Err.fault) names printed.0 _ _ c.in-Err.ensures.refused refl printed.2 printed.1)) c.add_desk_fault.ensures

pub returns : goal.returns
returns g c =
    let command = retire c.args.number in
    let names = c.args.self.now.names in
    on_ok_weaker c.add_retired.result (λ added.
    named-reply c.args.card.now.side command c.args.number c.in-Some.id names names _ _ (sym c.named.ensures ∙ c.in-Some.is)
    (replied c.args.card.now.side command (Retired []) names _ _ _ tt refl refl added)) c.add_retired.ensures
