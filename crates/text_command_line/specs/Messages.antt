-- What a program writes to the error output. `E` is the ghost member of the type of that output, and `I` and `O` are those of the
-- input and the output. A name with a prime is the device after the run.
use Rattle.std.specs.Prelude.{◌≡◌, ◌⊎◌, ℕ, List, ◌++◌, Result, Ok, Err}
use Rattle.text_io.specs.Devices.{IsPart, one_more}
use Rattle.text_io.specs.declared.device.Input.{Ghosts as InputView}
use Rattle.text_io.specs.declared.device.Output.{Ghosts as OutputView}
use Rattle.text_io.specs.declared.ending.Done.{Done}
use Rattle.text_io.specs.declared.ending.RunFault.{RunFault}

-- The message was written to the error output, or that failed and only a prefix was written.
abbrev pub WritesMessage : {Errors : Type 0} → OutputView Errors → Errors → Errors → List ℕ → Type 0
WritesMessage E errors errors' text =
    (E.held errors' ≡ E.held errors ++ text)
    ⊎ (IsPart (E.held errors) (E.held errors') text × (E.failures errors' ≡ one_more (E.failures errors)))

-- After a failed run the message of its fault is on the error output, as `WritesMessage` says. After any other run nothing was
-- written to it.
abbrev pub Reports : {Errors : Type 0} → (RunFault → List ℕ) → OutputView Errors → Errors → Errors → Result Done RunFault → Type 0
Reports message E errors errors' (Ok done) = E.held errors' ≡ E.held errors
Reports message E errors errors' (Err fault) = WritesMessage E errors errors' (message fault)

-- Nothing was written to the output and nothing was read.
abbrev pub IsIdle : {Source Sink : Type 0} → InputView Source → Source → Source → OutputView Sink → Sink → Sink → Type 0
IsIdle I input input' O output output' = (O.held output' ≡ O.held output) × (I.rest input' ≡ I.rest input)
