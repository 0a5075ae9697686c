-- The connection's journal is the answer, or the desk refuses.
use Rattle.std.proofs.Common.{ap, length, refl, sym}
use Rattle.std.proofs.lemmas.Result.{on_ok_weaker}
use Rattle.upc_cell.specs.declared.side.Side.{Side}
use Rattle.text_card.specs.Replies.{reply_text}
use Rattle.card_core.specs.declared.reply.Reply.TheVariants.{Refused, Released}
use Rattle.text_script.specs.ScriptCommands.{release}
use Rattle.cmd_ports.proofs.DeskLemmas.{adds-some, replied}
use Rattle.cmd_ports.proofs.script_desk.ScriptDesk.release.Goals as goal

pub returns-in-Err : goal.returns-in-Err
returns-in-Err g c =
    on_ok_weaker c.add_desk_fault.result (λ added.
    let printed = adds-some _ _ _ added in
    replied c.args.card.now.side (release c.args.vc) (Refused c.in-Err.fault) c.args.self.now.names printed.0 _ _ c.in-Err.ensures.refused refl printed.2 printed.1) c.add_desk_fault.ensures

pub returns : goal.returns
returns g c =
    on_ok_weaker c.add_released.result (λ added.
    replied c.args.card.now.side (release c.args.vc) (Released c.in-Ok.piece) c.args.self.now.names _ _ _ (c.in-Ok.ensures.piece, c.in-Ok.ensures.run) refl (ap (λ (s : Side). reply_text s (release c.args.vc) (length c.args.self.now.names) (Released c.in-Ok.piece)) (sym c.side.ensures)) added) c.add_released.ensures
