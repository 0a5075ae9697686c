-- The number of instructions of a line.
use Rattle.std.specs.Prelude.{ℕ, Option, Some, None}
use Rattle.bpf_asm.specs.StatementSpelling.{Statement}

-- The number of statements of a line: 0 or 1.
abbrev pub statement_count : Option Statement → ℕ
statement_count None = 0
statement_count (Some s) = 1
