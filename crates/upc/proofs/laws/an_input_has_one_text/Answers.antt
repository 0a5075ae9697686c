-- Each subcommand but `ports` has at most one text.
use Rattle.upc.proofs.Texts.{one-text_of}
use Rattle.upc.proofs.laws.an_input_has_one_text.Goals as goal

pub returns : goal.returns
returns c = one-text_of
