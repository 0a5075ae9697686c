-- The world after a refused step, by its answer.
use Rattle.std.proofs.Common.{◌≡◌, ℕ, Option, Some, None, slice_get, is_none, refl, sym, ap}
use Rattle.upc_cell.specs.Connection.{vc_of}
use Rattle.card_core.specs.declared.answer.Answer.TheVariants as cell_answers
use Rattle.card_core.specs.declared.reply.Reply.{Reply}
use Rattle.card_core.specs.declared.reply.Reply.TheVariants.{NotNow, Answered}
use Rattle.card_core.specs.declared.step.Step.{Step}
use Rattle.card_core.specs.declared.step.Step.TheVariants.{Enter, Pick, Judge, Load, Retire, Setup, Reload, Release, Cut}
use Rattle.card_core.specs.World.{World, PortState, outside, entered, picked, connection_in, with_port}
use Rattle.card_core.specs.Refusals.{refusal, pick_refusal, judge_refusal, picking_refusal}
use Rattle.card_core.specs.Steps.{left_by_pick, left_by_judge, left_by}
use Rattle.card_core.proofs.LookUps.{same_some, refused_by, mapped}

-- The world after this reply: if it answers the port's cell, the port has no cell.
abbrev pub with_answered : World → ℕ → Reply → World
with_answered before port (Answered answer) = with_port before port outside
with_answered before port _ = before

-- The world after a step is refused with this reply.
abbrev pub left_with : World → Step → Reply → World
left_with before (Pick port) refused = with_answered before port refused
left_with before (Judge port) refused = with_answered before port refused
left_with before _ refused = before

-- NotNow changes no port.
not-now : (before : World) (port : ℕ) (refused : Reply) → Some NotNow ≡ Some refused → before ≡ with_answered before port refused
not-now before port refused e = ap (with_answered before port) (same_some NotNow refused e)

left-pick : (before : World) (port : ℕ) (o : Option PortState) (refused : Reply) → pick_refusal before o ≡ Some refused
    → left_by_pick before port o ≡ with_answered before port refused
left-pick before port None refused e = not-now before port refused e
left-pick before port (Some outside) refused e = not-now before port refused e
left-pick before port (Some (entered cell moment)) refused e =
    refused_by (λ r. with_port before port outside ≡ with_answered before port r)
    (is_none (connection_in before.connections (vc_of before.shape.side cell))) (Answered cell_answers.NoConnection) None refl
    (λ x none. absurd (cc)) refused e
left-pick before port (Some (picked picking)) refused e = not-now before port refused e

left-judge : (before : World) (port : ℕ) (o : Option PortState) (refused : Reply) → judge_refusal before o ≡ Some refused
    → left_by_judge before port o ≡ with_answered before port refused
left-judge before port None refused e = not-now before port refused e
left-judge before port (Some outside) refused e = not-now before port refused e
left-judge before port (Some (entered cell moment)) refused e = not-now before port refused e
left-judge before port (Some (picked picking)) refused e =
    let found = mapped Answered (picking_refusal before picking (connection_in before.connections picking.vc)) refused e in
    sym (ap (with_answered before port) found.2)

pub left-as : (before : World) (step : Step) (refused : Reply) → refusal before step ≡ Some refused
    → left_by before step ≡ left_with before step refused
left-as before (Enter port cell moment) refused e = refl
left-as before (Pick port) refused e = left-pick before port (slice_get before.ports port) refused e
left-as before (Judge port) refused e = left-judge before port (slice_get before.ports port) refused e
left-as before (Load code) refused e = refl
left-as before (Retire id) refused e = refl
left-as before (Setup ask) refused e = refl
left-as before (Reload vc program) refused e = refl
left-as before (Release vc) refused e = refl
left-as before (Cut vc) refused e = refl
