-- A world with only the kept connections follows a world with others, step by step.
use Rattle.std.proofs.Common.{◌≡◌, ◌⊎◌, ℕ, Bool, true, false, List, [], Option, Some, None, MatchOption, option_map, refl, sym, ap, ◌∙◌, subst, inl, inr, arith}
use Rattle.std.proofs.lemmas.Option.{same_Some}
use Rattle.upc_cell.specs.declared.vc.Vc.{Vc}
use Rattle.upc_cell.specs.Connection.{vc_of, is_same_vc}
use Rattle.upc_cell.proofs.Public.{vc_same}
use Rattle.card_core.specs.declared.fault.DeskFault.TheVariants.{NoMemory}
use Rattle.card_core.specs.declared.reply.Reply.{Reply}
use Rattle.card_core.specs.declared.reply.Reply.TheVariants.{Refused, NotSetUp}
use Rattle.card_core.specs.declared.shape.Shape.{Shape}
use Rattle.card_core.specs.declared.step.Step.{Step}
use Rattle.card_core.specs.declared.step.Step.TheVariants.{Enter, Pick, Judge, Load, Retire, Setup, Reload, Release, Cut}
use Rattle.card_core.specs.World.{World, Connection, PortState, connection_in}
use Rattle.card_core.specs.Refusals.{refusal}
use Rattle.card_core.specs.Steps.{Succeeds, FindsNoMemory, IsRefused, WorldStep, without_memory}
use Rattle.card_core.specs.Laws.{is_of_memory, LoadsAccepted}
use Rattle.card_core.specs.Log.{Event, Leads}
use Rattle.card_core.specs.inner.Sound.{WorldInvariant}
use Rattle.card_core.proofs.Public.{step-replied}
use Rattle.card_isolation.specs.Act.{Act}
use Rattle.card_isolation.specs.OwnEvents.{OwnEvent, own_event}
use Rattle.card_isolation.specs.Restriction.{is_for_no_other_than}
use Rattle.card_isolation.proofs.Alone.{event_with}
use Rattle.card_isolation.proofs.Views.{alone_in, notes_in, Goes, StepEffect}
use Rattle.card_isolation.proofs.Steps.{HasJudgedFew, step-effect}
use Rattle.card_isolation.proofs.Unseen.{IsUnseen}
use Rattle.card_isolation.proofs.Shadow.{Holding, held, holding_of, HasOnlyKept, Shadows, are-apart, AreOne, are-one, are-none}
use Rattle.card_isolation.proofs.OwnSteps.{OwnStep}

-- The shadow doesn't follow a step of the world, or takes the same step, which is the same own event of each kept
-- connection.
pub data Follows (kept : Vc → Bool) (world : World) (step : Step) (reply : Reply) (after shadow : World) : Type 0 where
  stays : ((vc : Vc) → kept vc ≡ true → own_event world.shape.side vc (notes_in vc world) reply step ≡ None) → Shadows kept after shadow
      → Follows kept world step reply after shadow
  goes_too : (answered : Reply) (later : World) → WorldStep shadow step answered later
      → is_for_no_other_than world.shape.side kept step ≡ true
      → ((vc : Vc) → kept vc ≡ true
      → own_event shadow.shape.side vc (notes_in vc shadow) answered step ≡ own_event world.shape.side vc (notes_in vc world) reply step)
      → Shadows kept after later
      → Follows kept world step reply after shadow

-- A step that isn't refused succeeds.
pub leads-on : (before : World) (step : Step) (reply : Reply) (after : World) → refusal before step ≡ None → Succeeds before step reply after
    → WorldStep before step reply after
leads-on before step reply after e success =
    subst (λ (o : Option Reply). MatchOption o (Succeeds before step reply after ⊎ FindsNoMemory before step reply after)
    (λ refused. IsRefused before step refused reply after)) (sym e) (inl success)

of-memory : (step : Step) (reply : Reply) → without_memory step ≡ Some reply → is_of_memory reply ≡ true
of-memory (Setup ask) reply e = subst (λ (r : Reply). is_of_memory r ≡ true) (same_Some (NotSetUp NoMemory ask) reply e) refl
of-memory (Cut vc) reply e = subst (λ (r : Reply). is_of_memory r ≡ true) (same_Some (Refused NoMemory) reply e) refl
of-memory (Enter port cell moment) reply e = absurd (cc)
of-memory (Pick port) reply e = absurd (cc)
of-memory (Judge port) reply e = absurd (cc)
of-memory (Load code) reply e = absurd (cc)
of-memory (Retire id) reply e = absurd (cc)
of-memory (Reload vc program) reply e = absurd (cc)
of-memory (Release vc) reply e = absurd (cc)

-- A world and its shadow: both satisfy the invariant and have judged few cells, and a log leads to the shadow, so each
-- step has a reply there.
pub record AreBeside (kept : Vc → Bool) (world shadow : World) : Type 0 where
  pub shadows : Shadows kept world shadow
  pub sound : WorldInvariant world
  pub sound_too : WorldInvariant shadow
  pub few : HasJudgedFew world
  pub few_too : HasJudgedFew shadow
  pub shape : Shape
  pub log : List Event
  pub leads : Leads shape log shadow

-- Any virtual connection, for the effects that are the same for all: the shape is unchanged, and the growth of counts.
abbrev pub any_vc : World → Vc
any_vc world = vc_of world.shape.side []

module _ {kept : Vc → Bool} {world shadow : World} (beside : AreBeside kept world shadow) where
  -- A step that no kept connection sees doesn't move the shadow.
  pub stays-shadow : (step : Step) (reply : Reply) (after : World) → WorldStep world step reply after → IsUnseen kept world step reply after
      → Follows kept world step reply after shadow
  stays-shadow step reply after w unseen =
      let same : (vc : Vc) → kept vc ≡ true → alone_in vc after ≡ alone_in vc world = λ vc is.
      subst (λ (o : Option OwnEvent). Goes world.shape.journal o (alone_in vc world) (alone_in vc after)) (unseen.none vc is)
      (step-effect vc world step reply after beside.sound beside.few w).own in
      stays unseen.none (record {
        shape = beside.shadows.shape ∙ sym (step-effect (any_vc world) world step reply after beside.sound beside.few w).shape;
        loaded = beside.shadows.loaded ∙ sym unseen.loaded;
        live = beside.shadows.live ∙ sym unseen.live;
        alone = λ vc is. beside.shadows.alone vc is ∙ sym (same vc is);
        holding = λ vc is. beside.shadows.holding vc is ∙ sym (unseen.holding vc is);
        incarnations = omega (arith, beside.shadows.incarnations, unseen.incarnations);
        others = beside.shadows.others;
        ports = beside.shadows.ports;
      })

  -- An own step of a kept connection is a step of the shadow.
  pub goes-own : (vc : Vc) → kept vc ≡ true → (step : Step) (reply answered : Reply) (after later : World) (act other : Act)
      (holds : Option Holding → Option Holding) (more : ℕ)
      → WorldStep world step reply after → WorldStep shadow step answered later → is_for_no_other_than world.shape.side kept step ≡ true
      → OwnStep vc world step reply after act holds more → OwnStep vc shadow step answered later other holds more → other ≡ act
      → Follows kept world step reply after shadow
  goes-own vc is_kept step reply answered after later act other holds more w w_too own_step own own_too same =
      let effect : (another : Vc) → StepEffect another world step reply after = λ another. step-effect another world step reply after beside.sound beside.few w in
      let effect_too : (another : Vc) → StepEffect another shadow step answered later = λ another.
      step-effect another shadow step answered later beside.sound_too beside.few_too w_too in
      let one : (another : Vc) → kept another ≡ true → AreOne another world shadow step reply answered after later = λ another is.
      let choice : (b : Bool) → is_same_vc another vc ≡ b → AreOne another world shadow step reply answered after later = elim [
        | true ↦ λ e.
            subst (λ (v : Vc). AreOne v world shadow step reply answered after later) (sym (vc_same another vc e))
            (are-one vc world shadow step reply answered after later (event_with act own.outcome) (event_with other own_too.outcome)
            beside.shadows.shape (beside.shadows.alone vc is_kept) (effect vc) (effect_too vc) own.event own_too.event same)
        | false ↦ λ e.
            are-none another world shadow step reply answered after later (beside.shadows.alone another is) (effect another) (effect_too another)
            (own.apart another e) (own_too.apart another e)
      ] in
      choice (is_same_vc another vc) refl in
      let held_alike : (another : Vc) → kept another ≡ true → holding_of another later ≡ holding_of another after = λ another is.
      let choice : (b : Bool) → is_same_vc another vc ≡ b → holding_of another later ≡ holding_of another after = elim [
        | true ↦ λ e.
            subst (λ (v : Vc). holding_of v later ≡ holding_of v after) (sym (vc_same another vc e))
            (own_too.holding ∙ ap holds (beside.shadows.holding vc is_kept) ∙ sym own.holding)
        | false ↦ λ e.
            ap (option_map held) (own_too.others another e) ∙ beside.shadows.holding another is ∙ sym (ap (option_map held) (own.others another e))
      ] in
      choice (is_same_vc another vc) refl in
      goes_too answered later w_too own_step (λ another is. (one another is).event) (record {
        shape = (effect_too vc).shape ∙ beside.shadows.shape ∙ sym (effect vc).shape;
        loaded = own_too.loaded ∙ beside.shadows.loaded ∙ sym own.loaded;
        live = own_too.live ∙ beside.shadows.live ∙ sym own.live;
        alone = λ another is. (one another is).alone;
        holding = held_alike;
        incarnations = omega (arith, own_too.incarnations, own.incarnations, beside.shadows.incarnations);
        others = λ another isnt. own_too.others another (are-apart kept another vc false isnt is_kept) ∙ beside.shadows.others another isnt;
        ports = subst (λ (shape : Shape). HasOnlyKept shape.side kept later.ports) (sym (effect_too vc).shape) (own_too.ports kept is_kept beside.shadows.ports);
      })

  -- A step that is no connection's event and changes the programs of both in the same way.
  pub goes-beside : (step : Step) (reply answered : Reply) (after later : World) → WorldStep world step reply after → WorldStep shadow step answered later
      → is_for_no_other_than world.shape.side kept step ≡ true
      → ((vc : Vc) → own_event world.shape.side vc (notes_in vc world) reply step ≡ None)
      → ((vc : Vc) → own_event shadow.shape.side vc (notes_in vc shadow) answered step ≡ None)
      → later.loaded ≡ after.loaded → later.live ≡ after.live
      → after.connections ≡ world.connections → later.connections ≡ shadow.connections
      → after.incarnations ≡ world.incarnations → later.incarnations ≡ shadow.incarnations → later.ports ≡ shadow.ports
      → Follows kept world step reply after shadow
  goes-beside step reply answered after later w w_too own_step none none_too given live connections connections_too used used_too ports =
      let effect : (vc : Vc) → StepEffect vc world step reply after = λ vc. step-effect vc world step reply after beside.sound beside.few w in
      let effect_too : (vc : Vc) → StepEffect vc shadow step answered later = λ vc. step-effect vc shadow step answered later beside.sound_too beside.few_too w_too in
      let one : (vc : Vc) → kept vc ≡ true → AreOne vc world shadow step reply answered after later = λ vc is.
      are-none vc world shadow step reply answered after later (beside.shadows.alone vc is) (effect vc) (effect_too vc) (none vc) (none_too vc) in
      let holding_at : Vc → List (Vc × Connection) → Option Holding = λ vc connections. option_map held (connection_in connections vc) in
      goes_too answered later w_too own_step (λ vc is. (one vc is).event) (record {
        shape = (effect_too (any_vc world)).shape ∙ beside.shadows.shape ∙ sym (effect (any_vc world)).shape;
        loaded = given;
        live = live;
        alone = λ vc is. (one vc is).alone;
        holding = λ vc is. ap (holding_at vc) connections_too ∙ beside.shadows.holding vc is ∙ sym (ap (holding_at vc) connections);
        incarnations = omega (arith, used, used_too, beside.shadows.incarnations);
        others = λ vc isnt. ap (λ (l : List (Vc × Connection)). connection_in l vc) connections_too ∙ beside.shadows.others vc isnt;
        ports = subst (λ (shape : Shape). HasOnlyKept shape.side kept later.ports) (sym (effect_too (any_vc world)).shape)
            (subst (λ (l : List PortState). HasOnlyKept shadow.shape.side kept l) (sym ports) beside.shadows.ports);
      })

  -- A step that the shadow doesn't refuse has a success there.
  pub granted : (step : Step) → LoadsAccepted step → refusal shadow step ≡ None
      → (answered : Reply) × (later : World) × Succeeds shadow step answered later × WorldStep shadow step answered later
  granted step accepted allowed =
      let replied = step-replied beside.shape beside.log shadow beside.leads step accepted in
      let either : Succeeds shadow step replied.0 replied.1 ⊎ FindsNoMemory shadow step replied.0 replied.1 =
      subst (λ (o : Option Reply). MatchOption o (Succeeds shadow step replied.0 replied.1 ⊎ FindsNoMemory shadow step replied.0 replied.1)
      (λ refused. IsRefused shadow step refused replied.0 replied.1)) allowed replied.2 in
      elim either [
        | inl success ↦ (replied.0, replied.1, success, replied.2)
        | inr memory ↦ let short = of-memory step replied.0 memory.answer in let ample = replied.3 in absurd (cc)
      ]
