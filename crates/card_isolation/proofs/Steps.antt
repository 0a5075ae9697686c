-- The effect of each step on a connection, and that of a whole log.
use Rattle.std.proofs.Common.{◌≡◌, ◌⊎◌, ℕ, ◌^◌, ◌<◌, length, Option, Some, None, MatchOption, slice_get, option_map, refl, sym, ◌∙◌, subst, inl, inr}
use Rattle.std.proofs.lemmas.Option.{same_Some}
use Rattle.upc_cell.specs.declared.vc.Vc.{Vc}
use Rattle.card_core.specs.declared.fault.DeskFault.{DeskFault}
use Rattle.card_core.specs.declared.fault.DeskFault.TheVariants.{NoMemory}
use Rattle.card_core.specs.declared.reply.Reply.{Reply}
use Rattle.card_core.specs.declared.reply.Reply.TheVariants.{NotNow, NotLoaded, NotSetUp, Refused}
use Rattle.card_core.specs.declared.step.Step.{Step}
use Rattle.card_core.specs.declared.step.Step.TheVariants.{Enter, Pick, Judge, Load, Retire, Setup, Reload, Release, Cut}
use Rattle.card_core.specs.World.{World, PortState, outside, entered, picked}
use Rattle.card_core.specs.Refusals.{refusal, enter_refusal, load_fault, retire_fault, setup_fault, reload_fault, missing_fault}
use Rattle.card_core.specs.Steps.{Succeeds, FindsNoMemory, IsRefused, WorldStep}
use Rattle.card_core.specs.inner.Sound.{WorldInvariant}
use Rattle.card_core.proofs.LookUps.{mapped}
use Rattle.card_isolation.proofs.Views.{StepEffect, no-more, effect-at}
use Rattle.card_isolation.proofs.PortSteps.{effect-enters, effect-picks}
use Rattle.card_isolation.proofs.JudgeSteps.{effect-judges, effect-judge_refused, effect-pick_refused}
use Rattle.card_isolation.proofs.DeskSteps.{effect-loads, effect-retires, effect-sets_up, effect-reloads, effect-cuts, effect-releases}

-- No line is full of judged cells.
abbrev pub HasJudgedFew : World → Type 0
HasJudgedFew world = (line : ℕ) → length (world.verdicts line) < 2 ^ 62

succeeded : (vc : Vc) (before : World) (step : Step) (reply : Reply) (after : World) → WorldInvariant before → HasJudgedFew before
    → refusal before step ≡ None → Succeeds before step reply after → StepEffect vc before step reply after
succeeded vc before (Enter port cell moment) reply after sound few allowed w = effect-enters vc before port cell moment reply after allowed w
succeeded vc before (Pick port) reply after sound few allowed w = effect-picks vc before port reply after w
succeeded vc before (Judge port) reply after sound few allowed w = effect-judges vc before few port reply after allowed w
succeeded vc before (Load code) reply after sound few allowed w = effect-loads vc before code reply after sound w
succeeded vc before (Retire id) reply after sound few allowed w = effect-retires vc before id reply after w
succeeded vc before (Setup ask) reply after sound few allowed w = effect-sets_up vc before ask reply after sound allowed w
succeeded vc before (Reload other program) reply after sound few allowed w = effect-reloads vc before other program reply after w
succeeded vc before (Release other) reply after sound few allowed w = effect-releases vc before other reply after w
succeeded vc before (Cut other) reply after sound few allowed w = effect-cuts vc before other reply after w

-- A refusal of the desk changes nothing.

refused-effect : (vc : Vc) (before : World) (step : Step) (fault : DeskFault) → StepEffect vc before step (Refused fault) before
refused-effect vc before step fault = record {
  shape = refl;
  notes = refl;
  own = refl;
  counts = λ line. no-more (before.verdicts line);
}

desk-refused : (vc : Vc) (before : World) (step : Step) (fault : Option DeskFault) (refused : Reply)
    → option_map Refused fault ≡ Some refused → StepEffect vc before step refused before
desk-refused vc before step fault refused e =
    let is = mapped Refused fault refused e in
    subst (λ (r : Reply). StepEffect vc before step r before) (sym is.2) (refused-effect vc before step is.0)

pub enter-refused : (o : Option PortState) (refused : Reply) → enter_refusal o ≡ Some refused → NotNow ≡ refused
enter-refused None refused e = same_Some NotNow refused e
enter-refused (Some outside) refused e = absurd (cc)
enter-refused (Some (entered cell moment)) refused e = same_Some NotNow refused e
enter-refused (Some (picked picking)) refused e = same_Some NotNow refused e

rejected : (vc : Vc) (before : World) (step : Step) (refused reply : Reply) (after : World) → HasJudgedFew before
    → refusal before step ≡ Some refused → IsRefused before step refused reply after → StepEffect vc before step reply after
rejected vc before (Enter port cell moment) refused reply after few e w =
    effect-at vc before (Enter port cell moment) reply NotNow after before
    (w.answer ∙ sym (enter-refused (slice_get before.ports port) refused e)) w.world (record {
      shape = refl;
      notes = refl;
      own = refl;
      counts = λ line. no-more (before.verdicts line);
    })
rejected vc before (Pick port) refused reply after few e w =
    effect-at vc before (Pick port) reply refused after _ w.answer w.world
    (effect-pick_refused vc before port refused (slice_get before.ports port) refl e)
rejected vc before (Judge port) refused reply after few e w =
    effect-at vc before (Judge port) reply refused after _ w.answer w.world
    (effect-judge_refused vc before few port refused (slice_get before.ports port) refl e)
rejected vc before (Load code) refused reply after few e w =
    let is = mapped (λ fault. NotLoaded fault code) (load_fault before) refused e in
    effect-at vc before (Load code) reply (NotLoaded is.0 code) after before (w.answer ∙ is.2) w.world (record {
      shape = refl;
      notes = refl;
      own = refl;
      counts = λ line. no-more (before.verdicts line);
    })
rejected vc before (Retire id) refused reply after few e w =
    effect-at vc before (Retire id) reply refused after before w.answer w.world
    (desk-refused vc before (Retire id) (retire_fault before id) refused e)
rejected vc before (Setup ask) refused reply after few e w =
    let is = mapped (λ fault. NotSetUp fault ask) (setup_fault before ask) refused e in
    effect-at vc before (Setup ask) reply (NotSetUp is.0 ask) after before (w.answer ∙ is.2) w.world (record {
      shape = refl;
      notes = refl;
      own = refl;
      counts = λ line. no-more (before.verdicts line);
    })
rejected vc before (Reload other program) refused reply after few e w =
    effect-at vc before (Reload other program) reply refused after before w.answer w.world
    (desk-refused vc before (Reload other program) (reload_fault before other program) refused e)
rejected vc before (Release other) refused reply after few e w =
    effect-at vc before (Release other) reply refused after before w.answer w.world
    (desk-refused vc before (Release other) (missing_fault before other) refused e)
rejected vc before (Cut other) refused reply after few e w =
    effect-at vc before (Cut other) reply refused after before w.answer w.world
    (desk-refused vc before (Cut other) (missing_fault before other) refused e)

-- A step that fails to allocate changes nothing.
starved : (vc : Vc) (before : World) (step : Step) (reply : Reply) (after : World) → FindsNoMemory before step reply after
    → StepEffect vc before step reply after
starved vc before (Setup ask) reply after w =
    effect-at vc before (Setup ask) reply (NotSetUp NoMemory ask) after before (sym (same_Some (NotSetUp NoMemory ask) reply w.answer)) w.world (record {
      shape = refl;
      notes = refl;
      own = refl;
      counts = λ line. no-more (before.verdicts line);
    })
starved vc before (Cut other) reply after w =
    effect-at vc before (Cut other) reply (Refused NoMemory) after before (sym (same_Some (Refused NoMemory) reply w.answer)) w.world
    (refused-effect vc before (Cut other) NoMemory)
starved vc before (Enter port cell moment) reply after w = let none = w.answer in absurd (cc)
starved vc before (Pick port) reply after w = let none = w.answer in absurd (cc)
starved vc before (Judge port) reply after w = let none = w.answer in absurd (cc)
starved vc before (Load code) reply after w = let none = w.answer in absurd (cc)
starved vc before (Retire id) reply after w = let none = w.answer in absurd (cc)
starved vc before (Reload other program) reply after w = let none = w.answer in absurd (cc)
starved vc before (Release other) reply after w = let none = w.answer in absurd (cc)

pub step-effect : (vc : Vc) (before : World) (step : Step) (reply : Reply) (after : World) → WorldInvariant before → HasJudgedFew before
    → WorldStep before step reply after → StepEffect vc before step reply after
step-effect vc before step reply after sound few w =
    let choice : (o : Option Reply) → refusal before step ≡ o
    → MatchOption o (Succeeds before step reply after ⊎ FindsNoMemory before step reply after)
    (λ refused. IsRefused before step refused reply after)
    → StepEffect vc before step reply after = elim [
      | None ↦ λ e w. elim w [
        | inl success ↦ succeeded vc before step reply after sound few e success
        | inr memory ↦ starved vc before step reply after memory
      ]
      | Some refused ↦ λ e w. rejected vc before step refused reply after few e w
    ] in
    choice (refusal before step) refl w
