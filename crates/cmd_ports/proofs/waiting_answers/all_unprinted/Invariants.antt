-- The ports so far have their cells.
use Rattle.std.proofs.Common.{◌≡◌, map, take}
use Rattle.cmd_ports.proofs.waiting_answers.all_unprinted.Given as goal

abbrev pub invariant-loop-port : goal.invariant-loop-port
invariant-loop-port g l =
    map (λ own. own.now) l.cells.items ≡ map (λ port. port.arrivals.items) (take l.port-index l.ports)
