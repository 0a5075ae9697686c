-- What `upc-lab` says beside its answers.
use Rattle.std.specs.Prelude.{ℕ, ◌==◌, Bool, ◌&&◌, if◌then◌else◌, List, [], codes}
use Rattle.text_io.specs.declared.ending.RunFault.{RunFault}
use Rattle.text_io.specs.declared.ending.RunFault.TheVariants.{ReadFailed, WriteFailed, NoMemory}
use Rattle.upc_lab.specs.declared.reason.Reasoned.{Ghosts as ReasonView}

-- The message for each failure, with what the input and the output say of their own last failures. There is none if nobody reads the
-- output: whoever closed the pipe doesn't want to hear of it.
abbrev pub lab_failure_line : List ℕ → List ℕ → Bool → RunFault → List ℕ
lab_failure_line read written closed ReadFailed = read
lab_failure_line read written closed WriteFailed = if closed then [] else written
lab_failure_line read written closed NoMemory = codes "upc-lab: out of memory\n"

-- The message for each failure of a run over these devices.
abbrev pub message_over : {Source Sink : Type 0} → ReasonView Source → Source → ReasonView Sink → Sink → RunFault → List ℕ
message_over I input O output = lab_failure_line (I.message input) (O.message output) (O.is_closed output)

-- The exit status as a shell expects it: 141, which is 128 and the number of the signal PIPE, if a run failed because nobody
-- reads the output.
abbrev pub shell_status_of : ℕ → Bool → ℕ
shell_status_of status closed = if closed && (status == 3) then 141 else status
