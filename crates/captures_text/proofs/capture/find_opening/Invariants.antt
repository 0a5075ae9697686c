-- Loop invariant: the octets read so far wait in the window. It ends because each turn makes the window longer, and 24 octets decide.
use Rattle.std.proofs.Common.{◌≡◌, ◌-◌, ◌≤◌, ◌++◌, length}
use Rattle.captures_text.proofs.capture.find_opening.Given as goal

abbrev pub invariant-loop-window : goal.invariant-loop-window
invariant-loop-window g l =
    record {
      bounded : length l.window ≤ 524288;
      octets : g.I.Input.is_known → g.I.Input.rest l.fn.input ≡ l.window ++ g.I.Input.rest l.input;
      calm : g.I.Input.failures l.input ≡ g.I.Input.failures l.fn.input;
    }

abbrev pub decreases-loop-window : goal.decreases-loop-window
decreases-loop-window g l = 524288 - length l.window
