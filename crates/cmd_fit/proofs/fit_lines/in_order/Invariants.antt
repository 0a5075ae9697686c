-- Loop invariant: the rest of the states, put among those of the map, give all in order.
use Rattle.std.proofs.Common.{◌≡◌, [], drop}
use Rattle.cmd_fit.specs.FitText.{put_in_order}
use Rattle.cmd_fit.proofs.fit_lines.in_order.Given as goal

abbrev pub invariant-loop-fit : goal.invariant-loop-fit
invariant-loop-fit l = put_in_order l.ordered.entries (drop l.fit-index l.fits) ≡ put_in_order [] l.fits
