use Rattle.std.proofs.Common.{◌≡◌, ◌≤◌, length, vec_len, vec_capacity}
use Rattle.port_card.proofs.card.each_locked.Given as goal

abbrev pub invariant-loop-counted_line : goal.invariant-loop-counted_line
invariant-loop-counted_line g l = record {
  can : (goal.iterator-loop-counted_line g).can_next l.counted_line-iterator;
  ends : (goal.iterator-loop-counted_line g).is_finite l.counted_line-iterator;
  room : length l.fn.counted_lines.items ≤ vec_capacity l.locked;
  one_each : vec_len l.locked ≡ length l.yielded;
}
