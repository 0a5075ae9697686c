use Rattle.std.proofs.Common.{◌≡◌, ◌≤◌, length, vec_len, vec_capacity}
use Rattle.port_card.specs.Closing.{lines_total}
use Rattle.port_card.proofs.closing.gathered_lines.Given as goal

abbrev pub invariant-loop-counted_line : goal.invariant-loop-counted_line
invariant-loop-counted_line g l = record {
  can : (goal.iterator-loop-counted_line g).can_next l.counted_line-iterator;
  ends : (goal.iterator-loop-counted_line g).is_finite l.counted_line-iterator;
  room : vec_len l.fn.counted_lines ≤ vec_capacity l.lines;
  one_each : length l.lines.items ≡ length l.yielded;
  parts : l.shares.parts ≡ length l.yielded;
  tally : l.shares.tally ≡ lines_total l.lines.items;
}
