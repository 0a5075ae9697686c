use Rattle.captures.proofs.Openings.{openings_stay}
use Rattle.captures.proofs.laws.openings_stay.Goals as goal

pub returns : goal.returns
returns c = openings_stay
