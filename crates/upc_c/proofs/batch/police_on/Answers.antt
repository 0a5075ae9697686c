use Rattle.std.proofs.Common.{Some, sym, ap, ◌∙◌}
use Rattle.upc_c.specs.CardHandle.{card_in}
use Rattle.upc_c.proofs.Batches.{first-without}
use Rattle.upc_c.proofs.batch.police_on.Goals as goal

pub returns-in_default-clause-refused : goal.returns-in_default-clause-refused
returns-in_default-clause-refused c = first-without c.take_core.new.card c.args.octets.now c.args.stride c.args.moments.now c.first_without_card.result
    (ap card_in c.in_default.ensures.left ∙ c.in_default.ensures.none) c.requires.some c.first_without_card.ensures.fault

pub returns-clause-policed : goal.returns-clause-policed
returns-clause-policed c = c.police_each-policed.ensures.policed.on c.args.card.now c.put_core.new.card
    (c.in-Some.ensures.core ∙ ap Some (sym c.deref_mut.ensures.value)) c.put_core.ensures
