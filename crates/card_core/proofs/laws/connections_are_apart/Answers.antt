use Rattle.card_core.proofs.SoundSteps.{reached-sound}
use Rattle.card_core.proofs.laws.connections_are_apart.Goals as goal

pub returns : goal.returns
returns c = λ shape log world leads. record {
  lines = (reached-sound shape log world leads).connections.lines_apart;
  incarnations = (reached-sound shape log world leads).connections.apart;
}
