-- The log with this step.
use Rattle.std.proofs.Common.{rules, refl}
use Rattle.card_core.specs.DeskReplies.{setup_reply}
use Rattle.card_core.specs.declared.step.Step.TheVariants.{Setup}
use Rattle.upc_c.proofs.CardSteps.{reached-on}
use Rattle.upc_c.proofs.setting_up.setup_on.Goals as goal

pub with_core-requires-clause-reached : goal.with_core-requires-clause-reached
with_core-requires-clause-reached c = λ old new answer reached calls.
    reached-on old new (Setup c.args.ask) (setup_reply answer) refl reached (search rules)
