use Rattle.upc_c.proofs.EntryLemmas.{WrittenOf}
use Rattle.upc_c.proofs.entry.write_entries.Given as goal

abbrev pub invariant-loop-place : goal.invariant-loop-place
invariant-loop-place l = WrittenOf l.entries l.initial.room l.room l.place
