-- New seats have counted no cell.
use Rattle.cmd_ports.proofs.CountsLemmas.{new-unused}
use Rattle.cmd_ports.proofs.ports.open_card.Goals as goal

pub returns-clause-unused : goal.returns-clause-unused
returns-clause-unused g c = new-unused c.in-Ok.seats.items _ _ c.in-Ok.ensures.seats
