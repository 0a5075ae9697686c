use Rattle.std.proofs.Common.{length}
use Rattle.card_feeds.specs.inner.SoFar.{FedSoFar}
use Rattle.card_feeds.proofs.lane.Lane.run.Given as goal

abbrev pub invariant-loop-arrival : goal.invariant-loop-arrival
invariant-loop-arrival g l =
    let feeder = g.F.Feeder in
    record {
      fed : FedSoFar l.fn.self.core (feeder.coming l.fn.self.feeder) (feeder.has_taken l.fn.self.feeder)
          l.self.core (feeder.coming l.self.feeder) (feeder.has_taken l.self.feeder);
    }

abbrev pub decreases-loop-arrival : goal.decreases-loop-arrival
decreases-loop-arrival g l = length (g.F.Feeder.coming l.self.feeder)
