-- A run shows the state at first.
use Rattle.std.proofs.Common.{sym}
use Rattle.cmd_fit.specs.FitAsked.{scope_of}
use Rattle.cmd_fit.specs.FitText.{fit_start}
use Rattle.cmd_fit.specs.inner.RulesHeld.{rules_held}
use Rattle.cmd_fit.proofs.fit.fit_cells.Goals as goal

pub returns : goal.returns
returns g c = c.follow_cells.ensures (fit_start (scope_of c.args.choice (rules_held c.args.values))) tt (sym c.new-run.ensures)
