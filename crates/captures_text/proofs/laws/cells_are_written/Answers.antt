use Rattle.captures_text.proofs.CapturedLemmas.{cells-are-written}
use Rattle.captures_text.proofs.laws.cells_are_written.Goals as goal

pub returns : goal.returns
returns c = cells-are-written
