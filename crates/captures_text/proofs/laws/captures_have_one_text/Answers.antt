use Rattle.captures_text.proofs.Public.{one_cells_text, some_cells_text}
use Rattle.captures_text.proofs.laws.captures_have_one_text.Goals as goal

pub returns : goal.returns
returns c = λ tick link timing numbered octets. (some_cells_text tick link timing numbered octets, one_cells_text tick link timing numbered octets)
