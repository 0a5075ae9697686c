use Rattle.std.proofs.Common.{◌-◌}
use Rattle.rules_diagrams.specs.inner.Walks.{both_top}
use Rattle.rules_diagrams.proofs.walk.Walk.+go.Given as goal

abbrev pub decreases-go : goal.decreases-go
decreases-go l = 416 - both_top l.one.now l.other.now l.both
