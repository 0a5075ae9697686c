use Rattle.rules_text.proofs.Chains.{all_two}
use Rattle.rules_text.proofs.group.all_of_two.Goals as goal

pub returns : goal.returns
returns c = all_two c.in_ok-two.field-0 c.args.one c.args.other c.in_ok-two.ensures
