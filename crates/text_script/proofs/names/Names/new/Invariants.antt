-- There is room for the slots that are left.
use Rattle.std.proofs.Common.{◌≡◌, vec_len, vec_capacity}
use Rattle.text_script.proofs.names.Names.new.Given as goal

abbrev pub invariant-loop : goal.invariant-loop
invariant-loop l = (vec_capacity l.places ≡ l.slots) × (vec_len l.places ≡ l.counter)
