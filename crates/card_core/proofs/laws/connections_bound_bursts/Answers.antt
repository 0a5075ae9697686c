use Rattle.line_record.specs.History.{empty_buckets}
use Rattle.line_record.proofs.Public.{histories_bound_bursts}
use Rattle.card_core.proofs.SoundSteps.{reached-sound}
use Rattle.card_core.proofs.laws.connections_bound_bursts.Goals as goal

pub returns : goal.returns
returns c = λ shape log world leads vc connection found number contract named first span.
    (histories_bound_bursts connection.contracts empty_buckets 0 connection.history
    ((reached-sound shape log world leads).connections.each vc connection found).history
    number contract named first span).0
