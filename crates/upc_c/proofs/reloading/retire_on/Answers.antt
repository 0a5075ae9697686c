-- The log with this step; a refusal is one of this step.
use Rattle.std.proofs.Common.{rules, ap, refl}
use Rattle.card_core.specs.DeskReplies.{retire_reply}
use Rattle.card_core.specs.declared.step.Step.TheVariants.{Retire}
use Rattle.upc_c.specs.CardDesk.{reason_of}
use Rattle.upc_c.proofs.CardSteps.{reached-on, refuses-by}
use Rattle.upc_c.proofs.reloading.retire_on.Goals as goal

pub with_core-requires-clause-reached : goal.with_core-requires-clause-reached
with_core-requires-clause-reached c = λ old new answer reached calls.
    reached-on old new (Retire c.args.id) (retire_reply answer) refl reached (search rules)

pub returns-in-Err-clause-refused : goal.returns-in-Err-clause-refused
returns-in-Err-clause-refused c =
    let called = c.in_ok-retired.ensures.called in
    refuses-by _ _ called.old called.new (Retire c.args.id) (retire_reply c.in_ok-retired.retired) _ _ called.had called.has (search rules) (search rules)
    (ap (λ r. reason_of (retire_reply r)) c.in-Err.is) c.desk_fault_for_c.ensures.fault
