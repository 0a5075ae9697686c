use Rattle.std.proofs.Common.{◌-◌}
use Rattle.rules_diagrams.specs.inner.Asking.{asked_top}
use Rattle.rules_diagrams.proofs.store.Diagrams.+choose_asked.Given as goal

abbrev pub decreases-choose_asked : goal.decreases-choose_asked
decreases-choose_asked l = 416 - asked_top l.self.now l.asked
