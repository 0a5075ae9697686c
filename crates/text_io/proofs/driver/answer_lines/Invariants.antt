-- Loop invariant: the octets written, those waiting to be written, and any answer to the rest are an answer to the
-- whole input. No octet that was searched is a line feed.
use Rattle.std.proofs.Common.{◌≡◌, ◌≢◌, ℕ, ◌-◌, ◌*◌, ◌<◌, ◌≤◌, ◌++◌, length, get_or}
use Rattle.text_io.specs.Limits.{most_ahead, most_input_lines}
use Rattle.text_io.specs.inner.Progress.{Progress}
use Rattle.text_io.proofs.driver.answer_lines.Given as goal

abbrev pub invariant-loop-count : goal.invariant-loop-count
invariant-loop-count g l =
    let m = g.M.Machine in
    record {
      met : l.met ≤ most_input_lines;
      bounded : length l.window ≤ most_ahead;
      looked : l.looked ≤ length l.window;
      no_feed : (k : ℕ) → k < l.looked → get_or l.window k 0 ≢ 10;
      reading : g.I.Input.failures l.input ≡ g.I.Input.failures l.fn.input;
      writing : g.O.Output.failures l.output ≡ g.O.Output.failures l.fn.output;
      goes : Progress m.rules (m.shows l.fn.machine) (m.shows l.machine) g.I.Input.is_known g.O.Output.is_known
          (g.I.Input.rest l.fn.input) (l.window ++ g.I.Input.rest l.input)
          (g.O.Output.held l.fn.output) (g.O.Output.held l.output) l.answers.items l.met;
    }

-- The loop terminates: each line counts for more than a window holds, and each refill makes the window longer.
abbrev pub decreases-loop-count : goal.decreases-loop-count
decreases-loop-count g l = (1000001 - l.met) * 200000 - length l.window
