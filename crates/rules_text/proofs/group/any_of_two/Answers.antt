use Rattle.rules_text.proofs.Chains.{one_two}
use Rattle.rules_text.proofs.group.any_of_two.Goals as goal

pub returns : goal.returns
returns c = one_two c.in_ok-two.field-0 c.args.one c.args.other c.in_ok-two.ensures
