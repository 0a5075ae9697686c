-- The card is unchanged up to the step.
use Rattle.std.proofs.Common.{inr, subst}
use Rattle.card_core.specs.declared.reply.Reply.TheVariants.{Reloaded}
use Rattle.card_core.specs.declared.step.Step.TheVariants.{Reload}
use Rattle.gen_arena.specs.declared.id.Id.{Id}
use Rattle.upc_c.specs.CardDesk.{IsDeskFault, id_of}
use Rattle.upc_c.specs.CardHandle.{CardTakes}
use Rattle.upc_c.proofs.SettingUp.{desk-fault-from, takes-from}
use Rattle.upc_c.proofs.reloading.upc_card_reload.Goals as goal

pub returns-in-Ok-reload_on-clause-reloaded : goal.returns-in-Ok-reload_on-clause-reloaded
returns-in-Ok-reload_on-clause-reloaded c = λ _. (
  c.in-Ok.vc,
  c.in-Ok.ensures.vc,
  subst (λ (program : Id). CardTakes c.args.card.now c.reload_on.new.card (Reload c.in-Ok.vc program) (Reloaded (id_of c.id_for_c.result))) c.id_of.ensures
      (subst (λ (earlier : Id). CardTakes c.args.card.now c.reload_on.new.card (Reload c.in-Ok.vc c.id_of.result) (Reloaded earlier)) c.id_for_c.ensures.id
      (takes-from c.args.card.now c.vc_on.new.card c.reload_on.new.card _ _ c.vc_on.ensures.kept c.in-Ok-reload_on.ensures.reloaded)),
)

pub returns-in-Err-reload_on-clause-refused : goal.returns-in-Err-reload_on-clause-refused
returns-in-Err-reload_on-clause-refused c = λ _. inr (inr (
  c.in-Ok.vc,
  c.in-Ok.ensures.vc,
  subst (λ (program : Id). IsDeskFault c.args.card.now c.reload_on.new.card (Reload c.in-Ok.vc program) c.report-in-Err-reload_on.new.fault) c.id_of.ensures
      (desk-fault-from c.args.card.now c.vc_on.new.card c.reload_on.new.card _ c.in-Err-reload_on.found _
      c.vc_on.ensures.kept c.report-in-Err-reload_on.ensures.written c.in-Err-reload_on.ensures.refused),
))
