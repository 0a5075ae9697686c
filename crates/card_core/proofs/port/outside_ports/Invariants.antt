use Rattle.std.proofs.Common.{◌≡◌, vec_len, vec_capacity, replicate}
use Rattle.card_core.specs.declared.port.Port.TheVariants.{Outside}
use Rattle.card_core.proofs.port.outside_ports.Given as goal

abbrev pub invariant-loop : goal.invariant-loop
invariant-loop l =
    (vec_capacity l.ports ≡ l.many) × (vec_len l.ports ≡ l.counter)
    × (l.ports.items ≡ replicate l.counter Outside)
