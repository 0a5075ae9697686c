use Rattle.cmd_fit.proofs.RunLemmas.{fits-are-written}
use Rattle.cmd_fit.proofs.laws.fits_are_written.Goals as goal

pub returns : goal.returns
returns c = fits-are-written
