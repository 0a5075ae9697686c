-- Loop invariant: any text for what is left, from where the reading is, is one for the whole. The loop ends: each frame
-- brings the reader nearer to the last place, by more than a window holds, and each reading makes the window longer.
use Rattle.std.proofs.Common.{◌≡◌, ◌-◌, ◌*◌, ◌^◌, ◌≤◌, ◌<◌, length}
use Rattle.cmd_fit.proofs.LinksProgress.{ReadTo}
use Rattle.cmd_fit.proofs.links_driver.read_on.Given as goal

abbrev pub invariant-loop-reading : goal.invariant-loop-reading
invariant-loop-reading g l =
    record {
      bounded : length l.reading.window ≤ 524288;
      near : l.reading.reader.at < 2 ^ 64;
      read : g.I.Input.failures l.input ≡ g.I.Input.failures l.fn.input;
      silent : l.answers.items ≡ l.fn.answers.items;
      goes : ReadTo l.fn.reading l.reading g.I.Input.is_known (g.I.Input.rest l.fn.input) (g.I.Input.rest l.input);
    }

abbrev pub decreases-loop-reading : goal.decreases-loop-reading
decreases-loop-reading g l = (2 ^ 64 - l.reading.reader.at) * 600000 - length l.reading.window
