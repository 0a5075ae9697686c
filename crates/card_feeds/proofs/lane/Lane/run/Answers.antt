use Rattle.std.proofs.Common.{List, sym, subst}
use Rattle.card_shelf.specs.declared.arrival.Arrival.{Arrival}
use Rattle.card_feeds.specs.inner.SoFar.{FedSoFar}
use Rattle.card_feeds.proofs.FedLemmas.{answer-is, fed-first, fed-next, fed-last}
use Rattle.card_feeds.proofs.lane.Lane.run.Goals as goal

pub loop-arrival-init : goal.loop-arrival-init
loop-arrival-init g c =
    let feeder = g.F.Feeder in
    record { fed = fed-first c.args.self.now.core (feeder.coming c.args.self.now.feeder) (feeder.has_taken c.args.self.now.feeder) }

pub loop-arrival-preserved : goal.loop-arrival-preserved
loop-arrival-preserved g c =
    let feeder = g.F.Feeder in
    let first = c.args.self.now in
    let here = c.loop-arrival.self in
    let given = c.next_arrival.new.self in
    let taken = c.take_answer.new.self in
    let core = c.arrive-answer.new.self in
    let arrival = c.in-Some.arrival in
    let promise = c.arrive-answer.ensures in
    let answer = c.arrive-answer.result in
    record {
      fed = subst (λ (left : List Arrival). FedSoFar first.core (feeder.coming first.feeder) (feeder.has_taken first.feeder)
          core left (feeder.has_taken taken)) (sym c.take_answer.ensures.coming)
          (fed-next first.core (feeder.coming first.feeder) (feeder.has_taken first.feeder) here.core core
          (feeder.coming here.feeder) (feeder.coming given) (feeder.has_taken here.feeder) (feeder.has_taken given) (feeder.has_taken taken)
          arrival answer c.loop-arrival.invariant.fed c.in-Some.ensures.next.0
          (answer-is here.core core arrival answer promise.answered promise.not_now promise.unchanged promise.refused)
          c.in-Some.ensures.kept c.take_answer.ensures.taken);
    }

pub returns : goal.returns
returns g c =
    let feeder = g.F.Feeder in
    let first = c.args.self.now in
    let here = c.loop-arrival.self in
    let ended = c.next_arrival.new.self in
    record {
      fed = fed-last first.core (feeder.coming first.feeder) (feeder.has_taken first.feeder) here.core
          (feeder.coming here.feeder) (feeder.coming ended) (feeder.has_taken here.feeder) (feeder.has_taken ended)
          c.loop-arrival.invariant.fed c.in_default.ensures.next.0 c.in_default.ensures.next.1 c.in_default.ensures.kept;
    }
