-- What an error of clap becomes.
use Rattle.std.specs.Prelude.{◌≢◌, ⊤}
use Rattle.text_command_line.specs.Stopping.{IsMistake, IsRequest}
use Rattle.clap.specs.declared.error.kind.ErrorKind.{ErrorKind}
use Rattle.clap.specs.declared.error.kind.ErrorKind.TheVariants.{OutOfMemory}
use Rattle.text_command_line.specs.declared.stop.Stop.{Stop}
use Rattle.text_command_line.specs.declared.stop.Stop.TheVariants.{Help, Words, NoMemory}

-- The Stops that an error of this kind may become.
abbrev pub IsStopFor : ErrorKind → Stop → Type 0
IsStopFor kind (Help text) = IsRequest kind
IsStopFor kind (Words text) = IsMistake kind × (kind ≢ OutOfMemory)
IsStopFor kind NoMemory = ⊤
