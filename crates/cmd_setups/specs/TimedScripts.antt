-- How the code takes the times out of a script, and what waits.
use Rattle.std.specs.Prelude.{◌≡◌, ℕ, List, Option, Some, None}
use Rattle.cmd_setups.specs.TimedLines.{falling_line, falling_text, line_times, without_times}
use Rattle.cmd_setups.specs.declared.timed_lines.TimedScript.{TimedScript}
use Rattle.cmd_setups.specs.declared.timed_lines.TimedScript.TheVariants.{Ready, Falls}

-- What a script leads to: its lines without their times, and these, or a line whose time falls.
pub record HasTimes (setup script : List ℕ) (times : List (Option ℕ)) : Type 0 where
  pub rises : falling_line setup ≡ None
  pub plain : script ≡ without_times setup
  pub all : times ≡ line_times setup

-- What the code makes of a script: it without its times, or its answer where a time falls.
abbrev pub TakesTimes : List ℕ → TimedScript → Type 0
TakesTimes setup (Ready script times) = HasTimes setup script.items times.items
TakesTimes setup (Falls text) = (number : ℕ) × (falling_line setup ≡ Some number) × (text.items ≡ falling_text number)
