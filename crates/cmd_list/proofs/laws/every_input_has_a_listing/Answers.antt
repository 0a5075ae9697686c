use Rattle.cmd_list.proofs.Public.{some-list_text}
use Rattle.cmd_list.proofs.laws.every_input_has_a_listing.Goals as goal

pub returns : goal.returns
returns c = some-list_text
