-- The requested contracts so far are made.
use Rattle.text_script.proofs.RateLemmas.{MadeOf}
use Rattle.text_script.proofs.rates.checked_contracts.Given as goal

abbrev pub invariant-loop-ask : goal.invariant-loop-ask
invariant-loop-ask l = MadeOf l.ask-items l.contracts.items l.ask-index
