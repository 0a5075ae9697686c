use Rattle.cmd_list.proofs.Public.{one-list_text}
use Rattle.cmd_list.proofs.laws.an_input_has_one_listing.Goals as goal

pub returns : goal.returns
returns c = one-list_text
