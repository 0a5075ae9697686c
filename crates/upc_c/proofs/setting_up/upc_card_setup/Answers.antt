-- The request is that of the numbers, and the card is unchanged up to the step.
use Rattle.std.proofs.Common.{inr}
use Rattle.upc_c.proofs.SettingUp.{desk-fault-from, takes-from}
use Rattle.upc_c.proofs.setting_up.upc_card_setup.Goals as goal

pub returns-in-Ok-setup_on-clause-set : goal.returns-in-Ok-setup_on-clause-set
returns-in-Ok-setup_on-clause-set c = λ _. (
  _,
  record { vc = c.in-Ok-vc_on.ensures.vc; program = c.id_of.ensures; few = c.in-Ok.ensures.few; contracts = c.in-Ok.ensures.contracts },
  (_, takes-from c.args.card.now c.vc_on.new.card c.setup_on.new.card _ _ c.vc_on.ensures.kept c.in-Ok-setup_on.ensures.set),
)

pub returns-in-Err-setup_on-clause-refused : goal.returns-in-Err-setup_on-clause-refused
returns-in-Err-setup_on-clause-refused c = λ _. inr (inr (inr (
  _,
  record { vc = c.in-Ok-vc_on.ensures.vc; program = c.id_of.ensures; few = c.in-Ok.ensures.few; contracts = c.in-Ok.ensures.contracts },
  desk-fault-from c.args.card.now c.vc_on.new.card c.setup_on.new.card _ c.in-Err-setup_on.found _
      c.vc_on.ensures.kept c.report-in-Err-setup_on.ensures.written c.in-Err-setup_on.ensures.refused,
)))
