-- The seats of the ports so far.
use Rattle.std.proofs.Common.{◌≡◌, map}
use Rattle.cmd_ports.proofs.busy_ports.seats_of.Given as goal

abbrev pub invariant-loop-port : goal.invariant-loop-port
invariant-loop-port g l = record {
  can : (goal.iterator-loop-port g).can_next l.port-iterator;
  ends : (goal.iterator-loop-port g).is_finite l.port-iterator;
  seats : l.seats.items ≡ map (λ port. port.seat) l.yielded;
}
