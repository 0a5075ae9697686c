-- Line by line.
use Rattle.text_io.proofs.Public.{ends-print, prints-end}
use Rattle.text_io.proofs.laws.whole_texts_end_at_a_world.Goals as goal

pub returns-clause-leads : goal.returns-clause-leads
returns-clause-leads g c = λ lines met start text. prints-end g.M.Machine.rules met start lines text

pub returns-clause-prints : goal.returns-clause-prints
returns-clause-prints g c = λ lines met start last text. ends-print g.M.Machine.rules met start last lines text
