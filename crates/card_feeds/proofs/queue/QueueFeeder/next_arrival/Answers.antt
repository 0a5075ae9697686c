use Rattle.std.proofs.Common.{◌∷◌, ◌<◌, ◌+◌, length, drop, sym, ap, ◌∙◌, arith}
use Rattle.std.proofs.lemmas.List.{drop_more}
use Rattle.card_shelf.specs.declared.arrival.Arrival.{Arrival}
use Rattle.card_feeds.specs.Queue.{QueueView}
use Rattle.card_feeds.proofs.queue.QueueFeeder.next_arrival.Goals as goal

pub returns-clause-next : goal.returns-clause-next
returns-clause-next c =
    let arrivals = c.self.inside.arrivals.items in
    let given = c.self.inside.given in
    let arrival = c.index-arrival.result.now in
    let below : given < length arrivals = omega (arith, c.if-self-len.false, c.len.ensures, c.self.invariant.within) in
    let asked = c.self.invariant.asked in (
      ap (λ (q : QueueView). drop q.given q.arrivals) (sym c.self.view_is)
          ∙ drop_more arrivals given arrival below
          ∙ ap (λ (x : Arrival). x ∷ drop (given + 1) arrivals) (sym c.index-arrival.ensures),
      omega (arith, asked),
    )
