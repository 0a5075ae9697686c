-- If all threads so far had memory, their answers keep their promises.
use Rattle.std.proofs.Common.{◌≤◌, IsOk, length, map, vec_capacity}
use Rattle.std.specs.List.{AllZip}
use Rattle.cmd_ports.specs.inner.AtOnce.{KeepsPromise}
use Rattle.cmd_ports.proofs.at_once.join_ports.Given as goal

abbrev pub invariant-loop-thread : goal.invariant-loop-thread
invariant-loop-thread g l = record {
  can : (goal.iterator-loop-thread g).can_next l.thread-iterator;
  ends : (goal.iterator-loop-thread g).is_finite l.thread-iterator;
  room : length l.fn.running.items ≤ vec_capacity l.ended;
  short : length l.ended.items ≤ length l.yielded;
  kept : IsOk l.whole → AllZip KeepsPromise (map (λ thread. thread.promise) l.yielded) (map (λ port. port.arrivals.items) l.ended.items);
}
