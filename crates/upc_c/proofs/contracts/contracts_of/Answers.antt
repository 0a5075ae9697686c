-- One more contract is made.
use Rattle.std.proofs.Common.{List, ◌+◌, sym, subst}
use Rattle.leaky.specs.declared.contract.Contract.{Contract}
use Rattle.upc_c.proofs.ContractLemmas.{MadeOf, made-one_more}
use Rattle.upc_c.proofs.contracts.contracts_of.Goals as goal

pub loop-each-preserved : goal.loop-each-preserved
loop-each-preserved c =
    subst (λ (made : List Contract). MadeOf c.args.given.now made (c.loop-each.each-index + 1)) (sym c.push.ensures.items)
    (made-one_more c.args.given.now c.loop-each.contracts.items c.loop-each.each-index _ c.in-Ok.contract
    c.loop-each-test.true c.loop-each.invariant c.in-Ok.ensures.contract c.in-Ok.ensures.numbers)
