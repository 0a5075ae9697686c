-- The message of a device that knows why it failed.
use Rattle.std.specs.Prelude.{ℕ, List, ◌++◌, codes}
use Rattle.cmd_options.specs.FailureLines.{work_text}
use Rattle.cmd_options.specs.declared.reason.Work.{Work}

-- The message with a reason, in the words of the system.
abbrev pub reasoned_line : Work → List ℕ → List ℕ
reasoned_line work reason = work_text work ++ (codes ": " ++ (reason ++ codes "\n"))
