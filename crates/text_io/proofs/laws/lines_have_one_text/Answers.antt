-- Line by line.
use Rattle.text_io.proofs.Public.{one-text}
use Rattle.text_io.proofs.laws.lines_have_one_text.Goals as goal

pub returns : goal.returns
returns g c = one-text g.M.Machine.rules
