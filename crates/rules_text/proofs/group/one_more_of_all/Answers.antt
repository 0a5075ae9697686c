use Rattle.rules_text.proofs.Chains.{all_more}
use Rattle.rules_text.proofs.group.one_more_of_all.Goals as goal

pub returns : goal.returns
returns c = all_more c.args.tests c.in_ok-one_more.field-0 c.args.test c.in_ok-one_more.ensures
