-- What a terminal shows of how much of a capture was read.
use Rattle.std.specs.Prelude.{◌≡◌, ◌⊎◌, ℕ, List, Bool, true, false, Option, Some, None, Result, Ok}
use Rattle.text_io.specs.declared.device.Output.{Ghosts as OutputView}
use Rattle.text_command_line.specs.declared.stop.Stop.{Stop}
use Rattle.text_command_line.specs.Messages.{WritesMessage}
use Rattle.cmd_options.specs.declared.choice.Asked.{Asked}
use Rattle.cmd_options.specs.declared.choice.Asked.TheVariants.{Plain, Cells, Fit, Police, Forward}
use Rattle.cmd_options.specs.declared.choice.Subcommand.{Subcommand}
use Rattle.cmd_options.specs.declared.choice.Subcommand.TheVariants as lab

-- A subcommand without options that reads a capture.
abbrev pub reads_links : Subcommand → Bool
reads_links lab.Links = true
reads_links _ = false

-- The words ask for a subcommand that reads a capture.
abbrev pub reads_capture : Result Asked Stop → Bool
reads_capture (Ok (Plain subcommand)) = reads_links subcommand
reads_capture (Ok (Cells options)) = true
reads_capture (Ok (Fit options)) = true
reads_capture (Ok (Police options)) = true
reads_capture (Ok (Forward options)) = true
reads_capture _ = false

-- The device that shows the progress gets this text, or nothing if no allocation is left for it. Without a device nothing is shown.
abbrev pub ShowsText : {Sink : Type 0} → OutputView Sink → Option Sink → Option Sink → List ℕ → Type 0
ShowsText O (Some device) (Some after) text = WritesMessage O device after text ⊎ (after ≡ device)
ShowsText O (Some device) None text = ⊥
ShowsText O None after text = after ≡ None
