-- Loop invariant: from each world that was shown at first, what was written, what waits to be written, and any text for
-- the cells that wait and what is left, from a world that is shown, are a text for the whole.
use Rattle.std.proofs.Common.{◌≡◌, ◌+◌, min, ◌-◌, ◌*◌, ◌^◌, ◌≤◌, ◌<◌, [], length}
use Rattle.captures_text.specs.inner.Ahead.{CameToQueue}
use Rattle.captures_text.proofs.driver.follow_on.Given as goal

abbrev pub invariant-loop-reading : goal.invariant-loop-reading
invariant-loop-reading g l =
    let f = g.F.CellFollower in
    record {
      bounded : length l.reading.window ≤ 524288;
      near : l.reading.reader.at < 2 ^ 64;
      spare : l.queue.spare.items ≡ [];
      read : g.I.Input.failures l.input ≡ g.I.Input.failures l.fn.input;
      written : g.O.Output.failures l.output ≡ g.O.Output.failures l.fn.output;
      goes : CameToQueue f.rules (f.shows l.fn.follower) (f.shows l.follower) l.fn.reading l.reading l.queue.cells.items g.I.Input.is_known g.O.Output.is_known
          (g.I.Input.rest l.fn.input) (g.I.Input.rest l.input) (g.O.Output.held l.fn.output) (g.O.Output.held l.output) l.answers.items;
    }

-- The loop ends: each frame brings the reader nearer to the last place, by more than a window holds; each reading makes
-- the window longer; and at the end of the input the cells that wait are answered.
abbrev pub decreases-loop-reading : goal.decreases-loop-reading
decreases-loop-reading g l = ((2 ^ 64 - l.reading.reader.at) * 600000 - length l.reading.window) * 2 + min 1 (length l.queue.cells.items)
