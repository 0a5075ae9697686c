-- A core that took some steps takes one more.
use Rattle.std.proofs.Common.{◌≡◌, List, [], ◌∷◌, ◌++◌, length, refl, sym, ap, subst, ◌∙◌, arith, append_assoc}
use Rattle.card_core.specs.declared.reply.Reply.{Reply}
use Rattle.card_core.specs.declared.step.Step.{Step}
use Rattle.card_core.specs.Log.{Event, Run, Leads}
use Rattle.card_core.specs.Agreement.{CoreView, Follows, FollowsAll, events_of}
use Rattle.card_core.specs.Kept.{AnswersStep, AnswersSteps}
use Rattle.card_core.proofs.Follow.{Run-next}

pub events_of-next : (steps : List Step) (replies : List Reply) (step : Step) (reply : Reply) → length replies ≡ length steps
    → events_of (steps ++ step ∷ []) (replies ++ reply ∷ []) ≡ events_of steps replies ++ record { step = step; reply = reply } ∷ []
events_of-next [] [] step reply e = refl
events_of-next [] (other ∷ replies) step reply e = absurd (omega (arith, e))
events_of-next (first ∷ steps) [] step reply e = absurd (omega (arith, e))
events_of-next (first ∷ steps) (other ∷ replies) step reply e =
    ap (λ (later : List Event). record { step = first; reply = other } ∷ later)
    (events_of-next steps replies step reply (omega (arith, e)))

pub follows-next : (old middle new : CoreView) (steps : List Step) (replies : List Reply) (step : Step) (reply : Reply)
    → length replies ≡ length steps → FollowsAll old steps replies middle → Follows middle step reply new
    → FollowsAll old (steps ++ step ∷ []) (replies ++ reply ∷ []) new
follows-next old middle new steps replies step reply e so_far next shape log before leads agrees =
    let here = so_far shape log before leads agrees in
    let on = next shape (log ++ events_of steps replies) here.after here.leads here.agrees in
    let last : List Event = record { step = step; reply = reply } ∷ [] in
    let all = sym (events_of-next steps replies step reply e) in
    record {
      after = on.after;
      stepped = subst (λ (events : List Event). Run before events on.after) all
          (Run-next before here.after on.after (events_of steps replies) step reply here.stepped on.stepped);
      leads = subst (λ (events : List Event). Leads shape events on.after)
          (append_assoc log (events_of steps replies) last ∙ ap (λ (events : List Event). log ++ events) all) on.leads;
      agrees = on.agrees;
    }

-- The same, core by core.
pub takes-next : (old middle new : CoreView) (steps : List Step) (replies : List Reply) (step : Step) (reply : Reply)
    → AnswersSteps old steps replies middle → AnswersStep middle step reply new
    → AnswersSteps old (steps ++ step ∷ []) (replies ++ reply ∷ []) new
takes-next old middle new [] [] step reply so_far next =
    (new, subst (λ (core : CoreView). AnswersStep core step reply new) so_far next, refl)
takes-next old middle new [] (other ∷ replies) step reply so_far next = absurd so_far
takes-next old middle new (first ∷ steps) [] step reply so_far next = absurd so_far
takes-next old middle new (first ∷ steps) (other ∷ replies) step reply so_far next =
    (so_far.0, so_far.1, takes-next so_far.0 middle new steps replies step reply so_far.2 next)
