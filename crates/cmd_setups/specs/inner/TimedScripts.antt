-- The times and the commands of a script, as they are read and carried out one by one.
use Rattle.std.specs.Prelude.{◌≡◌, ℕ, ◌+◌, ◌<◌, nat_le, ⊤, true, false, List, [], ◌∷◌, ◌++◌, Option, Some, None, drop, length}
use Rattle.text_io.specs.Lines.{Line}
use Rattle.cmd_setups.specs.StoredCommands.{shown_command, waiting_in}
use Rattle.cmd_setups.specs.TimedLines.{WaitingCommand, falling_line, falls_after, line_times, lines_without_times, times_after, without_times}
use Rattle.cmd_setups.specs.declared.stored_commands.StoredCommand.{StoredCommand}
use Rattle.cmd_setups.specs.declared.stored_commands.StoredCommands.{StoredCommands}

-- The lines that are left, after `met` others, complete what was taken of a script.
pub record TakesOn (setup : List ℕ) (met : ℕ) (before : Option ℕ) (left : List Line) (script : List ℕ) (times : List (Option ℕ)) : Type 0 where
  pub falls : falls_after met before left ≡ falling_line setup
  pub plain : script ++ lines_without_times left ≡ without_times setup
  pub all : times ++ times_after before left ≡ line_times setup

-- The time of the line after `met` others, if there is such a line: the times begin with it after those of the others.
abbrev pub IsTimeOf : List (Option ℕ) → ℕ → Option (Option ℕ) → Type 0
IsTimeOf times met None = drop met times ≡ []
IsTimeOf times met (Some time) = (drop met times ≡ time ∷ drop (met + 1) times) × (met < length times)

-- The commands after the first of those that are left.
abbrev pub after_first_left : StoredCommands → StoredCommands
after_first_left commands = record commands { next = commands.next + 1 }

-- This is the first of the commands that are left.
pub record IsFirstLeft (commands : StoredCommands) (command : StoredCommand) : Type 0 where
  pub left : waiting_in commands ≡ shown_command command ∷ waiting_in (after_first_left commands)
  pub within : commands.next < length commands.all.items

-- The same, and its moment has come.
pub record IsDue (commands : StoredCommands) (moment : ℕ) (command : StoredCommand) : Type 0 where
  pub left : waiting_in commands ≡ shown_command command ∷ waiting_in (after_first_left commands)
  pub comes : nat_le command.moment moment ≡ true
  pub within : commands.next < length commands.all.items

-- No moment has come.
abbrev pub IsNoneDue : ℕ → List WaitingCommand → Type 0
IsNoneDue moment [] = ⊤
IsNoneDue moment (first ∷ waiting) = nat_le first.moment moment ≡ false
