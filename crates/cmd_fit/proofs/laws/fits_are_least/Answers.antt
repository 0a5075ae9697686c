use Rattle.cmd_fit.proofs.RunLemmas.{fits-are-least}
use Rattle.cmd_fit.proofs.laws.fits_are_least.Goals as goal

pub returns : goal.returns
returns c = fits-are-least
