use Rattle.line_record.proofs.TotalLemmas.{parts-within}
use Rattle.line_record.proofs.laws.parts_are_within.Goals as goal

pub returns : goal.returns
returns c = parts-within
