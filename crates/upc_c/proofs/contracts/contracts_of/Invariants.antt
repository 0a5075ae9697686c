-- The contracts so far are made.
use Rattle.upc_c.proofs.ContractLemmas.{MadeOf}
use Rattle.upc_c.proofs.contracts.contracts_of.Given as goal

abbrev pub invariant-loop-each : goal.invariant-loop-each
invariant-loop-each l = MadeOf l.given l.contracts.items l.each-index
