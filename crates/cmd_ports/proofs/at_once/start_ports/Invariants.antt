-- The threads so far promise the answers to the lines of their jobs.
use Rattle.std.proofs.Common.{◌≡◌, ◌≤◌, length, map, vec_capacity}
use Rattle.cmd_ports.proofs.at_once.start_ports.Given as goal

abbrev pub invariant-loop-job : goal.invariant-loop-job
invariant-loop-job g l = record {
  can : (goal.iterator-loop-job g).can_next l.job-iterator;
  ends : (goal.iterator-loop-job g).is_finite l.job-iterator;
  room : length l.fn.jobs.items ≤ vec_capacity l.running;
  short : length l.running.items ≤ length l.yielded;
  promises : map (λ thread. thread.promise) l.running.items ≡ map (λ job. record { side = l.side; lines = job.lines }) l.yielded;
}
