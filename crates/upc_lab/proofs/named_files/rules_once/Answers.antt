use Rattle.std.proofs.Common.{inr}
use Rattle.upc_lab.proofs.named_files.rules_once.Goals as goal

pub returns-in-Err-read_rules : goal.returns-in-Err-read_rules
returns-in-Err-read_rules g c = inr (c.args.name.now, c.in-Err-read_rules.ensures)
