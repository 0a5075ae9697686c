-- The effect of a program for its words, and its exit status. `I`, `O` and `E` are the ghost members of the types of
-- the input, the output and the error output. A name with a prime is the device after the run.
use Rattle.std.specs.Prelude.{◌≡◌, ◌⊎◌, ℕ, List, ◌++◌, Result, Ok, Err}
use Rattle.std.specs.String.{string_bytes}
use Rattle.text_io.specs.Devices.{IsPart}
use Rattle.text_io.specs.Serving.{IsServed}
use Rattle.text_io.specs.declared.device.Input.{Ghosts as InputView}
use Rattle.text_io.specs.declared.device.Output.{Ghosts as OutputView}
use Rattle.text_io.specs.declared.ending.Done.{Done}
use Rattle.text_io.specs.declared.ending.RunFault.{RunFault}
use Rattle.text_io.specs.declared.ending.RunFault.TheVariants.{WriteFailed, NoMemory}
use Rattle.text_command_line.specs.declared.stop.Stop.{Stop}
use Rattle.text_command_line.specs.declared.stop.Stop.TheVariants.{Help, Words, NoMemory as LacksMemory}
use Rattle.text_command_line.specs.ExitStatus.{status_of}
use Rattle.text_command_line.specs.Messages.{IsIdle, Reports, WritesMessage}

-- The effect of a program with these messages for failures and this text for each choice, and its exit status. A choice is
-- run. Help is written to the output. A message about the words goes to the error output. If the help can't be written, the
-- status is that of a failed run.
abbrev pub CarriesOut : {Chosen Source Sink Errors : Type 0} → (RunFault → List ℕ) → (Chosen → List ℕ → List ℕ → Done → Type 0)
    → Result Chosen Stop → InputView Source → Source → Source
    → OutputView Sink → Sink → Sink → OutputView Errors → Errors → Errors → ℕ → Type 0
CarriesOut message IsText (Ok choice) I input input' O output output' E errors errors' status =
    (ended : Result Done RunFault) × (status ≡ status_of ended)
    × IsServed (IsText choice) I input input' O output output' ended × Reports message E errors errors' ended
CarriesOut message IsText (Err (Help text)) I input input' O output output' E errors errors' status =
    ((status ≡ 0) × (O.held output' ≡ O.held output ++ string_bytes text) × (E.held errors' ≡ E.held errors))
    ⊎ ((status ≡ 3) × IsPart (O.held output) (O.held output') (string_bytes text) × WritesMessage E errors errors' (message WriteFailed))
CarriesOut message IsText (Err (Words text)) I input input' O output output' E errors errors' status =
    (status ≡ 2) × IsIdle I input input' O output output' × WritesMessage E errors errors' (string_bytes text)
CarriesOut message IsText (Err LacksMemory) I input input' O output output' E errors errors' status =
    (status ≡ 3) × IsIdle I input input' O output output' × WritesMessage E errors errors' (message NoMemory)

-- The exit status. No more is promised for devices whose octets no contract knows.
abbrev pub IsStatusFor : {Chosen : Type 0} → Result Chosen Stop → ℕ → Type 0
IsStatusFor (Ok choice) status = (ended : Result Done RunFault) × (status ≡ status_of ended)
IsStatusFor (Err (Help text)) status = (status ≡ 0) ⊎ (status ≡ 3)
IsStatusFor (Err (Words text)) status = status ≡ 2
IsStatusFor (Err LacksMemory) status = status ≡ 3
