-- The devices' failure counts at the end of a run. A count grows by one exactly if the run returns that device's
-- error.
use Rattle.std.specs.Prelude.{ℕ, Result, Ok, Err}
use Rattle.text_io.specs.Devices.{one_more}
use Rattle.text_io.specs.declared.ending.RunFault.{RunFault}
use Rattle.text_io.specs.declared.ending.RunFault.TheVariants.{ReadFailed, WriteFailed, NoMemory}

-- The failure count of the input.
abbrev pub read_failures : {T : Type 0} → Result T RunFault → ℕ → ℕ
read_failures (Ok value) before = before
read_failures (Err ReadFailed) before = one_more before
read_failures (Err WriteFailed) before = before
read_failures (Err NoMemory) before = before

-- The failure count of the output.
abbrev pub write_failures : {T : Type 0} → Result T RunFault → ℕ → ℕ
write_failures (Ok value) before = before
write_failures (Err ReadFailed) before = before
write_failures (Err WriteFailed) before = one_more before
write_failures (Err NoMemory) before = before
