-- Why words that `clap` refuses give no choice.
use Rattle.std.specs.Prelude.{◌≡◌, ◌≢◌, ◌⊎◌, ⊤}
use Rattle.clap.specs.Kinds.{IsAmong, Kinds}
use Rattle.clap.specs.declared.error.kind.ErrorKind.{ErrorKind}
use Rattle.clap.specs.declared.error.kind.ErrorKind.TheVariants.{DisplayHelp, DisplayVersion}
use Rattle.text_command_line.specs.declared.stop.Stop.{Stop}
use Rattle.text_command_line.specs.declared.stop.Stop.TheVariants.{Help, Words, NoMemory}

-- The kind is a request for help or for the version.
abbrev pub IsRequest : ErrorKind → Type 0
IsRequest kind = (kind ≡ DisplayHelp) ⊎ (kind ≡ DisplayVersion)

-- The kind is a request neither for help nor for the version.
abbrev pub IsMistake : ErrorKind → Type 0
IsMistake kind = (kind ≢ DisplayHelp) × (kind ≢ DisplayVersion)

-- The words with these kinds of error ask for help or for the version.
abbrev pub AsksHelp : Kinds → Type 0
AsksHelp kinds = (kind : ErrorKind) × IsAmong kind kinds × IsRequest kind

-- The words with these kinds of error have an error that is no such request.
abbrev pub IsFaulty : Kinds → Type 0
IsFaulty kinds = (kind : ErrorKind) × IsAmong kind kinds × IsMistake kind

-- The Stops that words with these kinds of error may give. NoMemory is always allowed.
abbrev pub StopsAt : Kinds → Stop → Type 0
StopsAt kinds (Help text) = AsksHelp kinds
StopsAt kinds (Words text) = IsFaulty kinds
StopsAt kinds NoMemory = ⊤
