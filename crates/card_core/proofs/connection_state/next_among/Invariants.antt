use Rattle.card_core.specs.inner.Listing.{IsNearest}
use Rattle.card_core.proofs.connection_state.next_among.Given as goal

abbrev pub invariant-loop-line : goal.invariant-loop-line
invariant-loop-line l = IsNearest l.lines l.line-index l.earlier l.best
