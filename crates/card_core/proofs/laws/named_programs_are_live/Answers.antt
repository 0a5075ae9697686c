use Rattle.card_core.proofs.SoundSteps.{reached-sound}
use Rattle.card_core.proofs.laws.named_programs_are_live.Goals as goal

pub returns : goal.returns
returns c = λ shape log world leads. record {
  connections = λ vc connection found. ((reached-sound shape log world leads).connections.each vc connection found).named_live;
  ports = λ port picking had. ((reached-sound shape log world leads).ports port picking had).live;
}
