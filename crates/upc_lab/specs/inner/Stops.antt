-- The exit status of words for which nothing is run.
use Rattle.std.specs.Prelude.{ℕ, Err}
use Rattle.text_command_line.specs.Invocation.{IsStatusFor}
use Rattle.text_command_line.specs.declared.stop.Stop.{Stop}
use Rattle.cmd_options.specs.declared.choice.Asked.{Asked}

-- The status is one of these words.
abbrev pub IsStatusOfStop : Stop → ℕ → Type 0
IsStatusOfStop stop status = IsStatusFor {Chosen = Asked} (Err stop) status
