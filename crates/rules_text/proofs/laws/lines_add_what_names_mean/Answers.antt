use Rattle.rules_text.proofs.NamesAdded.{lines_add}
use Rattle.rules_text.proofs.laws.lines_add_what_names_mean.Goals as goal

pub returns : goal.returns
returns c = lines_add
