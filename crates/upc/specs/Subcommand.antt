-- The output of each subcommand.
use Rattle.std.specs.Prelude.{ℕ, List, ⊤}
use Rattle.cmd_programs.specs.Check.{IsCheckText}
use Rattle.cmd_programs.specs.Eval.{IsEvalText}
use Rattle.cmd_run.specs.RunText.{IsRunText}
use Rattle.cmd_ports.specs.PortsText.{IsPortsText}
use Rattle.text_command_line.specs.declared.choice.Choice.{Choice}
use Rattle.text_command_line.specs.declared.choice.Choice.TheVariants.{Check, Eval, Run, Ports}
use Rattle.text_io.specs.declared.ending.Done.{Done}

-- The output for a whole input, and how the run ends. For `ports` an input may have several outputs.
abbrev pub IsTextOf : Choice → List ℕ → List ℕ → Done → Type 0
IsTextOf Check = IsCheckText
IsTextOf Eval = IsEvalText
IsTextOf Run = IsRunText
IsTextOf Ports = IsPortsText

-- The subcommands for which the definition allows one output for an input. For `ports` a line may have several answers.
abbrev pub HasOneText : Choice → Type 0
HasOneText Ports = ⊥
HasOneText _ = ⊤
