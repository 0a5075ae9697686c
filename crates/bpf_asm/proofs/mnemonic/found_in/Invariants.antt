-- The rest of the table has the same entry as the whole table.
use Rattle.std.proofs.Common.{◌≡◌, map, length}
use Rattle.bpf_asm.specs.inner.Reading.{table_entry}
use Rattle.bpf_asm.proofs.mnemonic.found_in.Given as goal

abbrev pub invariant-loop-left : goal.invariant-loop-left
invariant-loop-left g l = table_entry l.name (map (λ row. (row.0.now, row.1)) l.left) ≡ table_entry l.name (map (λ row. (row.0.now, row.1)) l.rows)

abbrev pub decreases-loop-left : goal.decreases-loop-left
decreases-loop-left g l = length l.left
