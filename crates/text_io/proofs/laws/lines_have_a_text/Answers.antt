-- By totality of the rules.
use Rattle.text_io.proofs.Public.{some-text}
use Rattle.text_io.proofs.laws.lines_have_a_text.Goals as goal

pub returns : goal.returns
returns g c = some-text g.M.Machine.rules g.met.M.Machine.is_total
