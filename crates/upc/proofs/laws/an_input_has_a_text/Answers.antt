-- Each subcommand has a text.
use Rattle.upc.proofs.Texts.{some-text_of}
use Rattle.upc.proofs.laws.an_input_has_a_text.Goals as goal

pub returns : goal.returns
returns c = some-text_of
