-- Two numbers within the side's limits name their connection.
use Rattle.std.proofs.Common.{◌≡◌, Some, ap, sym, ◌∙◌}
use Rattle.upc_cell.specs.Side.{last_vpi}
use Rattle.text_script.specs.ScriptWords.{channel_named, number_up_to}
use Rattle.text_script.proofs.ConnectionWords.{connection_is}
use Rattle.text_script.proofs.script_words.connection.Goals as goal

pub returns-in-Ok : goal.returns-in-Ok
returns-in-Ok c =
    let paths : number_up_to (last_vpi c.args.side) c.args.path.now ≡ Some c.in-Some.vpi = ap (λ most. number_up_to most c.args.path.now) (sym c.last_vpi.ensures) ∙ sym c.in-Some.ensures in
    let channels : channel_named c.args.side c.args.channel.now ≡ Some c.in-Some-channel_of.vci = sym c.in-Some-channel_of.ensures in
    connection_is c.args.side c.args.path.now c.args.channel.now c.in-Some.vpi c.in-Some-channel_of.vci c.in-Ok.vc
    paths channels c.in-Ok.ensures.path c.in-Ok.ensures.channel
