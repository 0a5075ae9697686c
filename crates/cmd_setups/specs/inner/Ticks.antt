-- The line of a setup script that names a tick, as the code returns it.
use Rattle.std.specs.Prelude.{ℕ}
use Rattle.cmd_setups.specs.declared.setup_tick.TickLine.{TickLine}

-- The nanoseconds of the tick that a line names, and the place and the size of the line.
abbrev pub place_and_size : TickLine → ℕ × (ℕ × ℕ)
place_and_size found = (found.tick.nanoseconds, (found.at, found.size))
