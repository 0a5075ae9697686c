-- Steps of a card that other steps have led to.
use Rattle.std.proofs.Common.{◌≡◌, ◌⊎◌, inl, inr, Bool, true, false, not, List, [], ◌∷◌, ◌++◌, Option, Some, None, ap, ◌∙◌}
use Rattle.std.specs.List.{list_all}
use Rattle.std.specs.Option.{MatchOption, option_map}
use Rattle.std.specs.Prelude.{slice_get}
use mathlib.Core.Logic.{∥∥₁_map}
use Rattle.card_core.specs.Agreement.{CoreView, Follows}
use Rattle.card_core.specs.Refusals.{load_fault, missing_fault, reload_fault, retire_fault, setup_fault}
use Rattle.card_core.specs.Steps.{FindsNoMemory, IsRefused, Succeeds, WorldStep}
use Rattle.card_core.specs.World.{World, PortState, is_outside}
use Rattle.card_core.specs.declared.fault.DeskFault.{DeskFault}
use Rattle.card_core.specs.declared.reply.Reply.{Reply}
use Rattle.card_core.specs.declared.reply.Reply.TheVariants.{NotLoaded, NotSetUp, Refused}
use Rattle.card_core.specs.declared.step.Step.{Step}
use Rattle.card_core.specs.declared.step.Step.TheVariants.{Enter, Pick, Judge, Load, Retire, Setup, Reload, Release, Cut}
use Rattle.card_core.specs.Kept.{RefusalKeeps}
use Rattle.upc_c.specs.CardDesk.{IsDeskFault, reason_of, desk_fault_for_c}
use Rattle.upc_c.specs.CardHandle.{card_in}
use Rattle.upc_c.specs.declared.card.UpcCard.{UpcCard}
use Rattle.upc_c.specs.declared.fault.UpcFault.{UpcFault}
use Rattle.upc_c.specs.inner.ReachedCore.{IsReachedCore}

-- A step of the desk succeeds, fails to allocate, or is refused with an error.
pub cases : (P : Type 0) (wrap : DeskFault → Reply) (found : Option DeskFault) (before after : World) (step : Step) (reply : Reply)
    → (Succeeds before step reply after → P) → (FindsNoMemory before step reply after → P)
    → ((fault : DeskFault) → IsRefused before step (wrap fault) reply after → P)
    → MatchOption (option_map wrap found) (Succeeds before step reply after ⊎ FindsNoMemory before step reply after)
    (λ refused. IsRefused before step refused reply after) → P
cases P wrap None before after step reply succeeds lacks refused (inl goes) = succeeds goes
cases P wrap None before after step reply succeeds lacks refused (inr none) = lacks none
cases P wrap (Some fault) before after step reply succeeds lacks refused is = refused fault is

-- The step is one of the desk.
abbrev pub is_of_desk : Step → Bool
is_of_desk (Enter port cell moment) = false
is_of_desk (Pick port) = false
is_of_desk (Judge port) = false
is_of_desk _ = true

-- A step of the desk leaves the ports unchanged.
abbrev Leaves : World → World → Type 0
Leaves before after = after.ports ≡ before.ports

same-ports : (before after : World) → after ≡ before → Leaves before after
same-ports before after same = ap (λ (w : World). w.ports) same

ports-left : (before after : World) (step : Step) (reply : Reply) → is_of_desk step ≡ true → WorldStep before step reply after → Leaves before after
ports-left before after (Enter port cell moment) reply desk = let no : false ≡ true = desk in cc
ports-left before after (Pick port) reply desk = let no : false ≡ true = desk in cc
ports-left before after (Judge port) reply desk = let no : false ≡ true = desk in cc
ports-left before after (Load code) reply desk =
    cases (Leaves before after) (λ fault. NotLoaded fault code) (load_fault before) before after (Load code) reply
    (λ s. ap (λ (w : World). w.ports) s.world) (λ l. same-ports before after l.world) (λ fault r. same-ports before after r.world)
ports-left before after (Retire id) reply desk =
    cases (Leaves before after) (λ fault. Refused fault) (retire_fault before id) before after (Retire id) reply
    (λ s. ap (λ (w : World). w.ports) s.world) (λ l. same-ports before after l.world) (λ fault r. same-ports before after r.world)
ports-left before after (Setup ask) reply desk =
    cases (Leaves before after) (λ fault. NotSetUp fault ask) (setup_fault before ask) before after (Setup ask) reply
    (λ s. ap (λ (w : World). w.ports) s.world) (λ l. same-ports before after l.world) (λ fault r. same-ports before after r.world)
ports-left before after (Reload vc id) reply desk =
    cases (Leaves before after) (λ fault. Refused fault) (reload_fault before vc id) before after (Reload vc id) reply
    (λ s. ap (λ (w : World). w.ports) s.world) (λ l. same-ports before after l.world) (λ fault r. same-ports before after r.world)
ports-left before after (Release vc) reply desk =
    cases (Leaves before after) (λ fault. Refused fault) (missing_fault before vc) before after (Release vc) reply
    (λ s. ap (λ (w : World). w.ports) s.world) (λ l. same-ports before after l.world) (λ fault r. same-ports before after r.world)
ports-left before after (Cut vc) reply desk =
    cases (Leaves before after) (λ fault. Refused fault) (missing_fault before vc) before after (Cut vc) reply
    (λ s. ap (λ (w : World). w.ports) s.world) (λ l. same-ports before after l.world) (λ fault r. same-ports before after r.world)

-- The log with this step.
pub reached-on : (old new : CoreView) (step : Step) (reply : Reply) → is_of_desk step ≡ true → IsReachedCore old → Follows old step reply new
    → IsReachedCore new
reached-on old new step reply desk reached follows = ∥∥₁_map reached (λ r.
    let gone = follows r.shape r.log r.world r.leads r.agrees in
    record {
      shape = r.shape;
      log = r.log ++ record { step = step; reply = reply } ∷ [];
      world = gone.after;
      leads = gone.leads;
      agrees = gone.agrees;
      idle = ap (λ (ports : List PortState). slice_get ports 0) (ports-left r.world gone.after step reply desk gone.stepped) ∙ r.idle;
      quiet = ap (λ (ports : List PortState). not (list_all is_outside ports)) (ports-left r.world gone.after step reply desk gone.stepped) ∙ r.quiet;
    })

-- If the core refuses the step, the card does.
pub refuses-by : (before after : UpcCard) (old new : CoreView) (step : Step) (reply : Reply) (reason : DeskFault) (fault : UpcFault)
    → card_in before ≡ Some old → card_in after ≡ Some new → Follows old step reply new → RefusalKeeps reply step old new
    → reason_of reply ≡ Some reason → fault ≡ desk_fault_for_c reason → IsDeskFault before after step fault
refuses-by before after old new step reply reason fault had has follows kept refused reported = inr (record {
  reply = reply;
  taken = record { old = old; new = new; had = had; has = has; follows = follows; kept = kept };
  reason = reason;
  refused = refused;
  reported = reported;
})
