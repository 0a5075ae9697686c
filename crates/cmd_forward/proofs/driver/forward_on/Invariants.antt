-- Loop invariant: from each world that was shown at first, what was written, what waits to be written, and any text for
-- what is left, from a world that is shown, are a text for the whole. Nothing was reported.
use Rattle.std.proofs.Common.{◌≡◌, ◌-◌, ◌*◌, ◌^◌, ◌≤◌, ◌<◌, length}
use Rattle.cmd_forward.specs.inner.ForwardSteps.{ForwardedTo}
use Rattle.cmd_forward.proofs.driver.forward_on.Given as goal

abbrev pub invariant-loop-written : goal.invariant-loop-written
invariant-loop-written g l =
    let j = g.J.CellJudge in
    record {
      bounded : length l.reading.window ≤ 524288;
      near : l.reading.reader.at < 2 ^ 64;
      read : g.I.Input.failures l.input ≡ g.I.Input.failures l.fn.input;
      written : g.O.Output.failures l.output ≡ g.O.Output.failures l.fn.output;
      silent : l.report.items ≡ l.fn.report.items;
      goes : ForwardedTo j.rules l.fn.others (j.shows l.fn.judge) (j.shows l.judge) l.fn.reading l.reading g.I.Input.is_known g.O.Output.is_known
          (g.I.Input.rest l.fn.input) (g.I.Input.rest l.input) (g.O.Output.held l.fn.output) (g.O.Output.held l.output) l.written.items;
    }

-- The loop ends: each frame brings the reader nearer to the last place, by more than a window holds, and each reading
-- makes the window longer.
abbrev pub decreases-loop-written : goal.decreases-loop-written
decreases-loop-written g l = (2 ^ 64 - l.reading.reader.at) * 600000 - length l.reading.window
