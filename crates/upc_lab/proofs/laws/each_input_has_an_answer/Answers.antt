-- Each subcommand has an answer.
use Rattle.upc_lab.proofs.Texts.{some-asked_text}
use Rattle.upc_lab.proofs.laws.each_input_has_an_answer.Goals as goal

pub returns : goal.returns
returns c = some-asked_text
