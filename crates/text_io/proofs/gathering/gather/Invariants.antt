-- Loop invariant: the octets read so far are at the start of the room; together with the rest they are the whole
-- input.
use Rattle.std.proofs.Common.{◌+◌, ◌-◌, ◌≡◌, ◌++◌, ◌≤◌, length, take}
use Rattle.text_io.proofs.gathering.gather.Given as goal

abbrev pub invariant-loop-end : goal.invariant-loop-end
invariant-loop-end g l =
    record {
      within : l.end ≤ length l.room.items;
      bounded : length l.room.items ≤ l.most + 1;
      octets : g.I.Input.is_known → g.I.Input.rest l.fn.input ≡ take l.end l.room.items ++ g.I.Input.rest l.input;
      calm : g.I.Input.failures l.input ≡ g.I.Input.failures l.fn.input;
    }

abbrev pub decreases-loop-end : goal.decreases-loop-end
decreases-loop-end g l = l.most + 1 - l.end
