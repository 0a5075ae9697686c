use Rattle.rules_text.proofs.Chains.{one_more}
use Rattle.rules_text.proofs.group.one_more_of_any.Goals as goal

pub returns : goal.returns
returns c = one_more c.args.tests c.in_ok-one_more.field-0 c.args.test c.in_ok-one_more.ensures
