-- One more contract is made, or its error is the first.
use Rattle.std.proofs.Common.{List, ◌+◌, sym, ap, ◌∙◌, subst}
use Rattle.leaky.specs.declared.contract.Contract.{Contract}
use Rattle.text_script.specs.Rates.{first_wanted_fault}
use Rattle.text_script.proofs.RateLemmas.{MadeOf, faulty-first, made-one_more}
use Rattle.text_script.proofs.rates.checked_contracts.Goals as goal

pub returns-in-Err-clause-faulty : goal.returns-in-Err-clause-faulty
returns-in-Err-clause-faulty c =
    ap first_wanted_fault (sym c.as_slice-ask-items.ensures.value)
    ∙ faulty-first c.as_slice-ask-items.result.now c.loop-ask.contracts.items c.loop-ask.ask-index _ c.in-Err.fault
    c.loop-ask-test.true c.loop-ask.invariant c.in-Err.ensures.faulty

pub loop-ask-preserved : goal.loop-ask-preserved
loop-ask-preserved c =
    let Made : List Contract → Type 0 = λ made. MadeOf c.as_slice-ask-items.result.now made (c.loop-ask.ask-index + 1) in
    subst Made (sym c.push.ensures.items)
    (made-one_more c.as_slice-ask-items.result.now c.loop-ask.contracts.items c.loop-ask.ask-index _ c.in-Ok.next
    c.loop-ask-test.true c.loop-ask.invariant c.in-Ok.ensures.made c.in-Ok.ensures.sound)
