-- The exit status.
use Rattle.std.specs.Prelude.{ℕ, Result, Ok, Err}
use Rattle.text_io.specs.declared.ending.Done.{Done}
use Rattle.text_io.specs.declared.ending.Done.TheVariants.{Whole, Ended}
use Rattle.text_io.specs.declared.ending.RunFault.{RunFault}

-- 0 if the whole input was answered, 1 if a fault line ended the run, 3 if the call failed.
abbrev pub status_of : Result Done RunFault → ℕ
status_of (Ok Whole) = 0
status_of (Ok Ended) = 1
status_of (Err fault) = 3
