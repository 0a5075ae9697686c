-- For each step of a world, a world with only the kept connections follows.
use Rattle.std.proofs.Common.{◌≡◌, ◌⊎◌, ℕ, zero, suc, ◌<◌, Bool, true, false, List, [], ◌∷◌, length, Option, Some, None, MatchOption, slice_get, refl, sym, ap, ◌∙◌, inl, inr, arith}
use Rattle.std.proofs.lemmas.Option.{same_Some, slice_get_within}
use Rattle.upc_cell.specs.declared.vc.Vc.{Vc}
use Rattle.upc_cell.specs.Connection.{vc_of, is_same_vc}
use Rattle.upc_cell.proofs.Public.{vc_itself}
use Rattle.card_core.specs.declared.fault.DeskFault.TheVariants.{NoMemory}
use Rattle.card_core.specs.declared.reply.Reply.{Reply}
use Rattle.card_core.specs.declared.reply.Reply.TheVariants.{NotNow, NotLoaded, Refused, NotSetUp}
use Rattle.card_core.specs.declared.shape.Shape.{Shape}
use Rattle.card_core.specs.declared.step.Step.{Step}
use Rattle.card_core.specs.declared.step.Step.TheVariants.{Enter, Pick, Judge, Load, Retire, Setup, Reload, Release, Cut}
use Rattle.card_core.specs.World.{World, PortState, outside, entered, picked}
use Rattle.card_core.specs.Refusals.{refusal, enter_refusal, pick_refusal, judge_refusal, load_fault, retire_fault, setup_fault, reload_fault, missing_fault}
use Rattle.card_core.specs.Steps.{Enters, Succeeds, FindsNoMemory, IsRefused, WorldStep, left_by_pick, left_by_judge}
use Rattle.card_core.proofs.Public.{step-replied}
use Rattle.card_isolation.specs.Act.{enters, looks_up, judges}
use Rattle.card_isolation.specs.OwnEvents.{own_event}
use Rattle.card_core.proofs.LookUps.{mapped}
use Rattle.card_isolation.proofs.Views.{notes_in}
use Rattle.card_isolation.proofs.PortSteps.{let_in}
use Rattle.card_isolation.proofs.Steps.{enter-refused}
use Rattle.card_isolation.proofs.Unseen.{unseen-enters, unseen-picks, unseen-judges, unseen-unchanged, unseen-not_now}
use Rattle.card_isolation.proofs.Shadow.{has_kept_in, none-too, entered-too, picked-too, HasEntered, HasPicked}
use Rattle.card_isolation.proofs.OwnSteps.{own-enters, own-picks, own-judges, same_holding}
use Rattle.card_isolation.proofs.Follows.{Follows, AreBeside, leads-on, stays-shadow, goes-own, granted}
use Rattle.card_isolation.proofs.DeskFollows.{follows-loads, follows-retires, follows-sets_up, follows-reloads, follows-cuts, follows-releases}

there-within : {X : Type 0} (xs : List X) (k : ℕ) → k < length xs → (x : X) × (slice_get xs k ≡ Some x)
there-within [] k within = absurd (omega (arith, within))
there-within (x ∷ xs) zero within = (x, refl)
there-within (x ∷ xs) (suc k) within = there-within xs k (omega (arith, within))

module _ {kept : Vc → Bool} {world shadow : World} (beside : AreBeside kept world shadow) where
  follows-enters : (port : ℕ) (cell : List ℕ) (moment : ℕ) (reply : Reply) (after : World) → refusal world (Enter port cell moment) ≡ None
      → Enters world port cell moment reply after → Follows kept world (Enter port cell moment) reply after shadow
  follows-enters port cell moment reply after allowed w =
      let step : Step = Enter port cell moment in
      let ws : WorldStep world step reply after = leads-on world step reply after allowed w in
      let was : slice_get world.ports port ≡ Some outside = let_in (slice_get world.ports port) allowed in
      let owner : Vc = vc_of world.shape.side cell in
      let choice : (b : Bool) → kept owner ≡ b → Follows kept world step reply after shadow = elim [
        | true ↦ λ is.
            let within : port < length shadow.ports =
            omega (arith, slice_get_within world.ports port outside was, beside.sound.sized, beside.sound_too.sized, ap (λ (shape : Shape). shape.ports) beside.shadows.shape) in
            let there = there-within shadow.ports port within in
            let none : has_kept_in shadow.shape.side kept (Some there.0) ≡ false =
            ap (has_kept_in shadow.shape.side kept) (sym there.1)
            ∙ none-too kept world shadow beside.shadows port (ap (has_kept_in world.shape.side kept) was) in
            let was_too : slice_get shadow.ports port ≡ Some outside = there.1 ∙ ap (λ (p : PortState). Some p) (beside.shadows.ports port there.0 there.1 none) in
            let too = granted beside step tt (ap enter_refusal was_too) in
            let own_too : is_same_vc owner (vc_of shadow.shape.side cell) ≡ true =
            ap (λ (shape : Shape). is_same_vc owner (vc_of shape.side cell)) beside.shadows.shape ∙ vc_itself owner in
            goes-own beside owner is step reply too.0 after too.1 (enters port cell moment) (enters port cell moment) same_holding 0 ws too.3 is
            (own-enters owner world port cell moment reply after (vc_itself owner) was w)
            (own-enters owner shadow port cell moment too.0 too.1 own_too was_too too.2) refl
        | false ↦ λ isnt. stays-shadow beside step reply after ws (unseen-enters kept world port cell moment reply after isnt w)
      ] in
      choice (kept owner) refl

  -- The steps of a cell at its port.

  picks-own : (vc : Vc) → kept vc ≡ true → (port : ℕ) (reply : Reply) (after : World) → WorldStep world (Pick port) reply after
      → HasEntered vc world port → Follows kept world (Pick port) reply after shadow
  picks-own vc is port reply after w here =
      let replied = step-replied beside.shape beside.log shadow beside.leads (Pick port) tt in
      goes-own beside vc is (Pick port) reply replied.0 after replied.1 (looks_up port) (looks_up port) same_holding 0 w replied.2 refl
      (own-picks vc world port reply after here w)
      (own-picks vc shadow port replied.0 replied.1 (entered-too vc world shadow (beside.shadows.alone vc is) port here) replied.2) refl

  judges-own : (vc : Vc) → kept vc ≡ true → (port : ℕ) (reply : Reply) (after : World) → WorldStep world (Judge port) reply after
      → HasPicked vc world port → Follows kept world (Judge port) reply after shadow
  judges-own vc is port reply after w here =
      let replied = step-replied beside.shape beside.log shadow beside.leads (Judge port) tt in
      goes-own beside vc is (Judge port) reply replied.0 after replied.1 (judges port) (judges port) same_holding 0 w replied.2 refl
      (own-judges vc world port reply after here w)
      (own-judges vc shadow port replied.0 replied.1 (picked-too vc world shadow (beside.shadows.alone vc is) port here) replied.2) refl

  picks-unseen : (port : ℕ) (reply : Reply) (after : World) → WorldStep world (Pick port) reply after
      → has_kept_in world.shape.side kept (slice_get world.ports port) ≡ false → Follows kept world (Pick port) reply after shadow
  picks-unseen port reply after w none = stays-shadow beside (Pick port) reply after w (unseen-picks kept world port reply after none w)

  judges-unseen : (port : ℕ) (reply : Reply) (after : World) → WorldStep world (Judge port) reply after
      → has_kept_in world.shape.side kept (slice_get world.ports port) ≡ false → Follows kept world (Judge port) reply after shadow
  judges-unseen port reply after w none = stays-shadow beside (Judge port) reply after w (unseen-judges kept world port reply after none w)

  follows-picks : (port : ℕ) (reply : Reply) (after : World) → WorldStep world (Pick port) reply after → (o : Option PortState)
      → slice_get world.ports port ≡ o → Follows kept world (Pick port) reply after shadow
  follows-picks port reply after w None at = picks-unseen port reply after w (ap (has_kept_in world.shape.side kept) at)
  follows-picks port reply after w (Some outside) at = picks-unseen port reply after w (ap (has_kept_in world.shape.side kept) at)
  follows-picks port reply after w (Some (entered cell moment)) at =
      let owner : Vc = vc_of world.shape.side cell in
      let choice : (b : Bool) → kept owner ≡ b → Follows kept world (Pick port) reply after shadow = elim [
        | true ↦ λ is. picks-own owner is port reply after w (record { cell = cell; moment = moment; had = at; own = vc_itself owner })
        | false ↦ λ isnt. picks-unseen port reply after w (ap (has_kept_in world.shape.side kept) at ∙ isnt)
      ] in
      choice (kept owner) refl
  follows-picks port reply after w (Some (picked picking)) at =
      stays-shadow beside (Pick port) reply after w
      (unseen-not_now kept world (Pick port) reply after (ap (pick_refusal world) at) (ap (left_by_pick world port) at) w)

  follows-judges : (port : ℕ) (reply : Reply) (after : World) → WorldStep world (Judge port) reply after → (o : Option PortState)
      → slice_get world.ports port ≡ o → Follows kept world (Judge port) reply after shadow
  follows-judges port reply after w None at = judges-unseen port reply after w (ap (has_kept_in world.shape.side kept) at)
  follows-judges port reply after w (Some outside) at = judges-unseen port reply after w (ap (has_kept_in world.shape.side kept) at)
  follows-judges port reply after w (Some (entered cell moment)) at =
      stays-shadow beside (Judge port) reply after w
      (unseen-not_now kept world (Judge port) reply after (ap (judge_refusal world) at) (ap (left_by_judge world port) at) w)
  follows-judges port reply after w (Some (picked picking)) at =
      let choice : (b : Bool) → kept picking.vc ≡ b → Follows kept world (Judge port) reply after shadow = elim [
        | true ↦ λ is. judges-own picking.vc is port reply after w (record { picking = picking; had = at; own = vc_itself picking.vc })
        | false ↦ λ isnt. judges-unseen port reply after w (ap (has_kept_in world.shape.side kept) at ∙ isnt)
      ] in
      choice (kept picking.vc) refl

  -- All steps.

  succeeded : (step : Step) (reply : Reply) (after : World) → WorldStep world step reply after → refusal world step ≡ None
      → Succeeds world step reply after → Follows kept world step reply after shadow
  succeeded (Enter port cell moment) reply after ws e w = follows-enters port cell moment reply after e w
  succeeded (Pick port) reply after ws e w = follows-picks port reply after ws (slice_get world.ports port) refl
  succeeded (Judge port) reply after ws e w = follows-judges port reply after ws (slice_get world.ports port) refl
  succeeded (Load code) reply after ws e w = follows-loads beside code reply after e w
  succeeded (Retire id) reply after ws e w = follows-retires beside id reply after e w
  succeeded (Setup ask) reply after ws e w = follows-sets_up beside ask reply after e w
  succeeded (Reload other program) reply after ws e w = follows-reloads beside other program reply after e w
  succeeded (Release other) reply after ws e w = follows-releases beside other reply after e w
  succeeded (Cut other) reply after ws e w = follows-cuts beside other reply after e w

  -- A step that changes nothing and is no connection's event.
  unchanged : (step : Step) (reply same_reply : Reply) (after : World) → WorldStep world step reply after → reply ≡ same_reply → after ≡ world
      → ((vc : Vc) → own_event world.shape.side vc (notes_in vc world) same_reply step ≡ None) → Follows kept world step reply after shadow
  unchanged step reply same_reply after ws is same none =
      stays-shadow beside step reply after ws (unseen-unchanged kept world step reply same_reply after is same none)

  starved : (step : Step) (reply : Reply) (after : World) → WorldStep world step reply after → FindsNoMemory world step reply after
      → Follows kept world step reply after shadow
  starved (Setup ask) reply after ws w =
      unchanged (Setup ask) reply (NotSetUp NoMemory ask) after ws (sym (same_Some (NotSetUp NoMemory ask) reply w.answer)) w.world (λ vc. refl)
  starved (Cut other) reply after ws w =
      unchanged (Cut other) reply (Refused NoMemory) after ws (sym (same_Some (Refused NoMemory) reply w.answer)) w.world (λ vc. refl)
  starved (Enter port cell moment) reply after ws w = let none = w.answer in absurd (cc)
  starved (Pick port) reply after ws w = let none = w.answer in absurd (cc)
  starved (Judge port) reply after ws w = let none = w.answer in absurd (cc)
  starved (Load code) reply after ws w = let none = w.answer in absurd (cc)
  starved (Retire id) reply after ws w = let none = w.answer in absurd (cc)
  starved (Reload other program) reply after ws w = let none = w.answer in absurd (cc)
  starved (Release other) reply after ws w = let none = w.answer in absurd (cc)

  rejected : (step : Step) (refused reply : Reply) (after : World) → WorldStep world step reply after → refusal world step ≡ Some refused
      → IsRefused world step refused reply after → Follows kept world step reply after shadow
  rejected (Enter port cell moment) refused reply after ws e w =
      unchanged (Enter port cell moment) reply NotNow after ws (w.answer ∙ sym (enter-refused (slice_get world.ports port) refused e)) w.world (λ vc. refl)
  rejected (Pick port) refused reply after ws e w = follows-picks port reply after ws (slice_get world.ports port) refl
  rejected (Judge port) refused reply after ws e w = follows-judges port reply after ws (slice_get world.ports port) refl
  rejected (Load code) refused reply after ws e w =
      let is = mapped (λ fault. NotLoaded fault code) (load_fault world) refused e in
      unchanged (Load code) reply (NotLoaded is.0 code) after ws (w.answer ∙ is.2) w.world (λ vc. refl)
  rejected (Retire id) refused reply after ws e w =
      let is = mapped Refused (retire_fault world id) refused e in
      unchanged (Retire id) reply (Refused is.0) after ws (w.answer ∙ is.2) w.world (λ vc. refl)
  rejected (Setup ask) refused reply after ws e w =
      let is = mapped (λ fault. NotSetUp fault ask) (setup_fault world ask) refused e in
      unchanged (Setup ask) reply (NotSetUp is.0 ask) after ws (w.answer ∙ is.2) w.world (λ vc. refl)
  rejected (Reload other program) refused reply after ws e w =
      let is = mapped Refused (reload_fault world other program) refused e in
      unchanged (Reload other program) reply (Refused is.0) after ws (w.answer ∙ is.2) w.world (λ vc. refl)
  rejected (Release other) refused reply after ws e w =
      let is = mapped Refused (missing_fault world other) refused e in
      unchanged (Release other) reply (Refused is.0) after ws (w.answer ∙ is.2) w.world (λ vc. refl)
  rejected (Cut other) refused reply after ws e w =
      let is = mapped Refused (missing_fault world other) refused e in
      unchanged (Cut other) reply (Refused is.0) after ws (w.answer ∙ is.2) w.world (λ vc. refl)

  pub step-follows : (step : Step) (reply : Reply) (after : World) → WorldStep world step reply after
      → Follows kept world step reply after shadow
  step-follows step reply after ws =
      let choice : (o : Option Reply) → refusal world step ≡ o
      → MatchOption o (Succeeds world step reply after ⊎ FindsNoMemory world step reply after)
      (λ refused. IsRefused world step refused reply after)
      → Follows kept world step reply after shadow = elim [
        | None ↦ λ e w. elim w [
          | inl success ↦ succeeded step reply after ws e success
          | inr memory ↦ starved step reply after ws memory
        ]
        | Some refused ↦ λ e w. rejected step refused reply after ws e w
      ] in
      choice (refusal world step) refl ws
