use Rattle.cmd_list.proofs.WholeListing.{listed_whole}
use Rattle.cmd_list.proofs.laws.a_whole_listing_means_the_program.Goals as goal

pub returns : goal.returns
returns c = listed_whole
