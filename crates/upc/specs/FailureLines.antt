-- The message of `upc` for a failed run.
use Rattle.std.specs.Prelude.{ℕ, List, codes}
use Rattle.text_io.specs.declared.ending.RunFault.{RunFault}
use Rattle.text_io.specs.declared.ending.RunFault.TheVariants.{ReadFailed, WriteFailed, NoMemory}

-- The message for each failure.
abbrev pub failure_message : RunFault → List ℕ
failure_message ReadFailed = codes "upc: reading failed\n"
failure_message WriteFailed = codes "upc: writing failed\n"
failure_message NoMemory = codes "upc: out of memory\n"
