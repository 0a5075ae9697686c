-- The connection is set up, or the desk refuses.
use Rattle.std.proofs.Common.{ap, length, refl, sym, ◌∙◌}
use Rattle.std.proofs.lemmas.Result.{on_ok_weaker}
use Rattle.upc_cell.specs.declared.side.Side.{Side}
use Rattle.text_card.specs.Replies.{reply_text}
use Rattle.card_core.specs.declared.reply.Reply.TheVariants.{NotSetUp, SetUp}
use Rattle.text_script.specs.ScriptCommands.{setup}
use Rattle.cmd_ports.proofs.DeskLemmas.{adds-some, named-reply, replied, setup-reply}
use Rattle.cmd_ports.proofs.script_desk.ScriptDesk.setup.Goals as goal

pub returns-in-Err-setup : goal.returns-in-Err-setup
returns-in-Err-setup g c =
    let wanted = c.args.wanted.now.items in
    let command = setup c.args.vc c.args.number wanted in
    let names = c.args.self.now.names in
    on_ok_weaker c.add_desk_fault.result (λ added.
    let printed = adds-some _ _ _ added in
    setup-reply c.args.card.now.side c.args.vc c.args.number wanted names names _ _ c.in-Ok.ensures.sound
    (named-reply c.args.card.now.side command c.args.number c.in-Some.program names names _ _ (sym c.named.ensures ∙ c.in-Some.is)
    (replied c.args.card.now.side command (NotSetUp c.in-Err-setup.fault c.in-Err-setup.field-0-1) names printed.0 _ _ c.in-Err-setup.ensures.refused refl printed.2 printed.1))) c.add_desk_fault.ensures

pub returns : goal.returns
returns g c =
    let wanted = c.args.wanted.now.items in
    let command = setup c.args.vc c.args.number wanted in
    let names = c.args.self.now.names in
    on_ok_weaker c.add_set.result (λ added.
    setup-reply c.args.card.now.side c.args.vc c.args.number wanted names names _ _ c.in-Ok.ensures.sound
    (named-reply c.args.card.now.side command c.args.number c.in-Some.program names names _ _ (sym c.named.ensures ∙ c.in-Some.is)
    (replied c.args.card.now.side command (SetUp (record { vc = c.args.vc; incarnation = 0 })) names _ _ _ refl refl (ap (λ (s : Side). reply_text s command (length names) (SetUp (record { vc = c.args.vc; incarnation = 0 }))) (sym c.side.ensures)) added))) c.add_set.ensures
