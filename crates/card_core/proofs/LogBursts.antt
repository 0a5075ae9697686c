-- The burst bound over the log alone.
use Rattle.std.proofs.Common.{◌≡◌, List, ap, ◌∙◌, subst}
use Rattle.upc_cell.specs.declared.vc.Vc.{Vc}
use Rattle.line_record.specs.History.{IsHistory, empty_buckets}
use Rattle.line_record.proofs.Public.{histories_bound_bursts}
use Rattle.card_core.specs.declared.ask.Ask.{Ask}
use Rattle.card_core.specs.declared.shape.Shape.{Shape}
use Rattle.card_core.specs.World.{World, Connection, connection_in}
use Rattle.card_core.specs.Log.{Event, Leads}
use Rattle.card_core.specs.Headline.{cells_judged_on, IsInForceSince}
use Rattle.card_core.specs.Laws.{LogsBoundBursts}
use Rattle.card_core.proofs.LookUps.{there_is}
use Rattle.card_core.proofs.SoundSteps.{reached-sound}
use Rattle.card_core.proofs.OneAnswer.{one-in_force}
use Rattle.card_core.proofs.ConnectionsOfLog.{connections-of_log}

-- The cells of a connection since its setup, by the log, are a history.
history-of_log : (shape : Shape) (log : List Event) (world : World) → Leads shape log world
    → (vc : Vc) (ask : Ask) (since : List Event) → IsInForceSince log vc ask since → IsHistory (cells_judged_on shape vc since)
history-of_log shape log world leads vc ask since in_force =
    let known = connections-of_log shape log world leads in
    let found = there_is (connection_in world.connections vc) (known.there vc ask since in_force) in
    let connection : Connection = found.0 in
    let of_log = known.connections vc connection found.1 in
    let same = one-in_force log vc of_log.ask ask of_log.since since of_log.in_force in_force in
    let cells : connection.history ≡ cells_judged_on shape vc since = of_log.cells ∙ ap (cells_judged_on shape vc) same.1 in
    subst IsHistory cells ((reached-sound shape log world leads).connections.each vc connection found.1).history

pub logs-bound : LogsBoundBursts
logs-bound shape log is vc ask since in_force number contract named first span =
    (histories_bound_bursts ask.contracts.items empty_buckets 0 (cells_judged_on shape vc since)
    (history-of_log shape log is.0 is.1 vc ask since in_force) number contract named first span).0
