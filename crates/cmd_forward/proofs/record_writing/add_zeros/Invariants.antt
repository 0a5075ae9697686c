-- Loop invariant: as many zeros as turns were appended.
use Rattle.std.proofs.Common.{◌≡◌, ◌++◌, replicate}
use Rattle.cmd_forward.proofs.record_writing.add_zeros.Given as goal

abbrev pub invariant-loop : goal.invariant-loop
invariant-loop l = l.written.items ≡ l.fn.written.items ++ replicate l.counter 0
