use Rattle.cmd_fit.proofs.LinksOfOctets.{one_links, some_links}
use Rattle.cmd_fit.proofs.laws.captures_have_one_links_text.Goals as goal

pub returns : goal.returns
returns c = λ octets. (some_links octets, one_links octets)
