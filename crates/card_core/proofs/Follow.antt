-- How a step of the core is proved: from a world that satisfies the invariant.
use Rattle.std.proofs.Common.{◌≡◌, List, [], ◌∷◌, ◌++◌, Some, None, refl, sym, subst, inl, inr}
use Rattle.card_core.specs.declared.reply.Reply.{Reply}
use Rattle.card_core.specs.declared.step.Step.{Step}
use Rattle.card_core.specs.World.{World}
use Rattle.card_core.specs.Refusals.{refusal}
use Rattle.card_core.specs.Steps.{WorldStep, Succeeds, without_memory}
use Rattle.card_core.specs.Log.{Event, Run}
use Rattle.card_core.specs.Agreement.{CoreView, CoreAgrees, Follows}
use Rattle.card_core.proofs.Sound.{WorldInvariant}
use Rattle.card_core.proofs.LeftLemmas.{left_with, left-as}
use Rattle.card_core.proofs.SoundSteps.{reached-sound}

-- A log with one more event.
pub Run-next : (start before after : World) (log : List Event) (step : Step) (reply : Reply)
    → Run start log before → WorldStep before step reply after
    → Run start (log ++ record { step = step; reply = reply } ∷ []) after
Run-next start before after [] step reply at goes =
    (after, subst (λ (w : World). WorldStep w step reply after) at goes, refl)
Run-next start before after (event ∷ later) step reply run goes =
    (run.0, run.1, Run-next run.0 before after later step reply run.2 goes)

-- A step that is refused.
pub step-refused : (before : World) (step : Step) (reply : Reply) → refusal before step ≡ Some reply
    → WorldStep before step reply (left_with before step reply)
step-refused before step reply e = rw e (record { answer = refl; world = sym (left-as before step reply e) })

-- A step that succeeds.
pub step-taken : (before after : World) (step : Step) (reply : Reply) → refusal before step ≡ None
    → Succeeds before step reply after → WorldStep before step reply after
step-taken before after step reply e goes = rw e (inl goes)

-- A step that fails to allocate.
pub step-without_memory : (before : World) (step : Step) (reply : Reply) → refusal before step ≡ None
    → without_memory step ≡ Some reply → WorldStep before step reply before
step-without_memory before step reply e lacks = rw e (inr (record { answer = lacks; world = refl }))

-- For every world that satisfies the invariant and agrees with the old core, the step with this reply leads to a world
-- that agrees with the new core.
abbrev pub GoesOn : CoreView → Step → Reply → CoreView → Type 0
GoesOn old step reply new = (before : World) → WorldInvariant before → CoreAgrees old before
    → (after : World) × WorldStep before step reply after × CoreAgrees new after

pub follows : (old new : CoreView) (step : Step) (reply : Reply) → GoesOn old step reply new → Follows old step reply new
follows old new step reply goes shape log before leads agrees =
    let on = goes before (reached-sound shape log before leads) agrees in
    record { after = on.0; stepped = on.1; leads = Run-next _ before on.0 log step reply leads on.1; agrees = on.2 }
