-- The judged cells among a connection's own events are its judged cells in the log.
use Rattle.std.proofs.Common.{◌≡◌, ◌⊎◌, ℕ, ◌+◌, ◌^◌, suc, ◌≤◌, Bool, true, false, cond, List, [], ◌∷◌, ◌++◌, map, filter, length, Option, Some, None, MatchOption, slice_get, option_map, refl, sym, ap, ◌∙◌, subst, inl, inr, arith}
use Rattle.std.specs.List.{cons_option}
use Rattle.std.proofs.lemmas.Option.{same_Some}
use Rattle.upc_cell.specs.declared.side.Side.{Side}
use Rattle.upc_cell.specs.declared.vc.Vc.{Vc}
use Rattle.upc_cell.specs.Connection.{vc_of, is_same_vc}
use Rattle.leaky.specs.declared.verdict.Verdict.{Verdict}
use Rattle.card_core.specs.declared.answer.Answer.{Answer}
use Rattle.card_core.specs.declared.answer.Answer.TheVariants.{Judged}
use Rattle.card_core.specs.declared.fault.DeskFault.{DeskFault}
use Rattle.card_core.specs.declared.fault.DeskFault.TheVariants.{NoMemory}
use Rattle.card_core.specs.declared.reply.Reply.{Reply}
use Rattle.card_core.specs.declared.reply.Reply.TheVariants.{Entered, Picked, NotNow, Answered, NotLoaded, SetUp, NotSetUp, Reloaded, Released, Cut as CutOff, Refused}
use Rattle.card_core.specs.declared.shape.Shape.{Shape}
use Rattle.card_core.specs.declared.step.Step.{Step}
use Rattle.card_core.specs.declared.step.Step.TheVariants.{Enter, Pick, Judge, Load, Retire, Setup, Reload, Release, Cut}
use Rattle.card_core.specs.World.{World, Loading, PortState, outside, entered, picked, code_in, connection_in, opening_world}
use Rattle.card_core.specs.Refusals.{refusal, pick_refusal, judge_refusal, picking_refusal, load_fault, retire_fault, setup_fault, reload_fault, missing_fault}
use Rattle.card_core.specs.Steps.{Judges, Succeeds, FindsNoMemory, IsRefused, WorldStep, verdict_on, cell_of_picking, cell_after, without_memory}
use Rattle.card_core.specs.Judged.{JudgedView, judged_in_answer}
use Rattle.card_core.specs.Log.{Event, Run, Leads}
use Rattle.card_core.specs.Headline.{judged_in_reply, judged_cells}
use Rattle.card_core.specs.inner.Sound.{WorldInvariant}
use Rattle.card_core.proofs.Public.{worlds-sound, log-goes_on}
use Rattle.card_isolation.specs.Act.{Act, judges}
use Rattle.card_isolation.specs.Outcome.{Outcome, was_judged, was_not_judged, outcome_of}
use Rattle.card_isolation.specs.OwnEvents.{OwnEvent, Notes, notes_after, own_event, own_where, with_event, own_events_after, opening_notes}
use Rattle.card_isolation.specs.OwnCells.{OwnAnswer, own_answer, judged_outcome, judged_own, judged_on, JudgedCellsAreOwn}
use Rattle.card_isolation.proofs.Views.{has_own_in, notes_in, StepEffect, same-notes}
use Rattle.card_isolation.proofs.Steps.{HasJudgedFew, step-effect, enter-refused}
use Rattle.card_core.proofs.LookUps.{mapped}
use Rattle.card_isolation.proofs.JudgeSteps.{no-connection, picking-plain}
use Rattle.card_core.proofs.CellLemmas.{vc-after}
use Rattle.card_isolation.proofs.Isolated.{no-own}

-- The judged cell of an event, if it has one and it is the connection's.

abbrev of_event : Option OwnEvent → List OwnAnswer
of_event None = []
of_event (Some event) = judged_own (event ∷ [])

abbrev in_reply : Shape → Vc → Option JudgedView → List OwnAnswer
in_reply shape vc None = []
in_reply shape vc (Some judged) = cond (is_same_vc vc (vc_of shape.side judged.cell)) (own_answer judged ∷ []) []

first-one : {X : Type 0} (first : Option X) (later : List X) → cons_option first later ≡ cons_option first [] ++ later
first-one None later = refl
first-one (Some x) later = refl

with_event-of : (event : Option OwnEvent) (later : List OwnEvent) → judged_own (with_event event later) ≡ of_event event ++ judged_own later
with_event-of None later = refl
with_event-of (Some event) later = first-one (judged_outcome event.outcome) (judged_own later)

reply-of : (shape : Shape) (vc : Vc) (event : Event) (later : List Event)
    → judged_on shape vc (event ∷ later) ≡ in_reply shape vc (judged_in_reply event.reply) ++ judged_on shape vc later
reply-of shape vc event later =
    let own : JudgedView → Bool = λ judged. is_same_vc vc (vc_of shape.side judged.cell) in
    let choice : (o : Option JudgedView) → map own_answer (filter own (cons_option o (judged_cells later))) ≡ in_reply shape vc o ++ judged_on shape vc later = elim [
      | None ↦ refl
      | Some judged ↦
          let inner : (b : Bool) → map own_answer (cond b (judged ∷ filter own (judged_cells later)) (filter own (judged_cells later)))
          ≡ cond b (own_answer judged ∷ []) [] ++ judged_on shape vc later = elim [
            | true ↦ refl
            | false ↦ refl
          ] in
          inner (own judged)
    ] in
    choice (judged_in_reply event.reply)

-- An event without a judged cell.

plain-own : (own : Bool) (act : Act) (outcome : Outcome) → judged_outcome outcome ≡ None → of_event (own_where own act outcome) ≡ []
plain-own true act outcome none = ap (λ (o : Option OwnAnswer). cons_option o []) none
plain-own false act outcome none = refl

plain-answer : (codes : List Loading) (answer : Answer) → judged_in_answer answer ≡ None → judged_outcome (outcome_of codes answer) ≡ None
plain-answer codes (Judged line number moment value program verdict cell) e = absurd (cc)
plain-answer codes _ e = refl

plain-event : (side : Side) (vc : Vc) (notes : Notes) (reply : Reply) (step : Step) → judged_in_reply reply ≡ None
    → of_event (own_event side vc notes reply step) ≡ []
plain-event side vc notes (SetUp owner) (Setup ask) e = plain-own (is_same_vc vc ask.vc) _ _ refl
plain-event side vc notes (Reloaded old) (Reload other program) e = plain-own (is_same_vc vc other) _ _ refl
plain-event side vc notes (Released piece) (Release other) e = plain-own (is_same_vc vc other) _ _ refl
plain-event side vc notes (CutOff piece) (Cut other) e = plain-own (is_same_vc vc other) _ _ refl
plain-event side vc notes Entered (Enter port cell moment) e = plain-own (is_same_vc vc (vc_of side cell)) _ _ refl
plain-event side vc notes Picked (Pick port) e = plain-own (notes.has_own port) _ _ refl
plain-event side vc notes (Answered answer) (Pick port) e = plain-own (notes.has_own port) _ _ (plain-answer notes.codes answer e)
plain-event side vc notes (Answered answer) (Judge port) e = plain-own (notes.has_own port) _ _ (plain-answer notes.codes answer e)
plain-event side vc notes _ _ e = refl

-- A refusal has no judged cell.

plain-unjudged : (answer : Answer) → outcome_of [] answer ≡ was_not_judged answer → judged_in_answer answer ≡ None
plain-unjudged (Judged line number moment value program verdict cell) e = absurd (cc)
plain-unjudged _ e = refl

at-no-time : (refused : Reply) → Some NotNow ≡ Some refused → judged_in_reply refused ≡ None
at-no-time refused e = ap judged_in_reply (sym (same_Some NotNow refused e))

pick-not_judged : (world : World) (refused : Reply) → (o : Option PortState) → pick_refusal world o ≡ Some refused → judged_in_reply refused ≡ None
pick-not_judged world refused None e = at-no-time refused e
pick-not_judged world refused (Some outside) e = at-no-time refused e
pick-not_judged world refused (Some (entered cell moment)) e =
    ap judged_in_reply (no-connection (connection_in world.connections (vc_of world.shape.side cell)) refused e).1
pick-not_judged world refused (Some (picked picking)) e = at-no-time refused e

judge-not_judged : (world : World) (refused : Reply) → (o : Option PortState) → judge_refusal world o ≡ Some refused → judged_in_reply refused ≡ None
judge-not_judged world refused None e = at-no-time refused e
judge-not_judged world refused (Some outside) e = at-no-time refused e
judge-not_judged world refused (Some (entered cell moment)) e = at-no-time refused e
judge-not_judged world refused (Some (picked picking)) e =
    let is = mapped Answered (picking_refusal world picking (connection_in world.connections picking.vc)) refused e in
    ap judged_in_reply is.2 ∙ plain-unjudged is.0 (picking-plain world picking (connection_in world.connections picking.vc) is.0 is.1 [])

desk-not_judged : (fault : Option DeskFault) (refused : Reply) → option_map Refused fault ≡ Some refused → judged_in_reply refused ≡ None
desk-not_judged fault refused e = ap judged_in_reply (mapped Refused fault refused e).2

refused-not_judged : (world : World) (step : Step) (refused : Reply) → refusal world step ≡ Some refused → judged_in_reply refused ≡ None
refused-not_judged world (Enter port cell moment) refused e = ap judged_in_reply (sym (enter-refused (slice_get world.ports port) refused e))
refused-not_judged world (Pick port) refused e = pick-not_judged world refused (slice_get world.ports port) e
refused-not_judged world (Judge port) refused e = judge-not_judged world refused (slice_get world.ports port) e
refused-not_judged world (Load code) refused e = ap judged_in_reply (mapped (λ fault. NotLoaded fault code) (load_fault world) refused e).2
refused-not_judged world (Retire id) refused e = desk-not_judged (retire_fault world id) refused e
refused-not_judged world (Setup ask) refused e = ap judged_in_reply (mapped (λ fault. NotSetUp fault ask) (setup_fault world ask) refused e).2
refused-not_judged world (Reload other program) refused e = desk-not_judged (reload_fault world other program) refused e
refused-not_judged world (Release other) refused e = desk-not_judged (missing_fault world other) refused e
refused-not_judged world (Cut other) refused e = desk-not_judged (missing_fault world other) refused e

starved-not_judged : (step : Step) (reply : Reply) → without_memory step ≡ Some reply → judged_in_reply reply ≡ None
starved-not_judged (Setup ask) reply e = ap judged_in_reply (sym (same_Some (NotSetUp NoMemory ask) reply e))
starved-not_judged (Cut other) reply e = ap judged_in_reply (sym (same_Some (Refused NoMemory) reply e))
starved-not_judged (Enter port cell moment) reply e = absurd (cc)
starved-not_judged (Pick port) reply e = absurd (cc)
starved-not_judged (Judge port) reply e = absurd (cc)
starved-not_judged (Load code) reply e = absurd (cc)
starved-not_judged (Retire id) reply e = absurd (cc)
starved-not_judged (Reload other program) reply e = absurd (cc)
starved-not_judged (Release other) reply e = absurd (cc)

-- An event has a judged cell of the connection exactly if it is its own event.

abbrev IsAnsweredAlike : Vc → World → Step → Reply → Type 0
IsAnsweredAlike vc world step reply =
    of_event (own_event world.shape.side vc (notes_in vc world) reply step) ≡ in_reply world.shape vc (judged_in_reply reply)

not_judged : (vc : Vc) (world : World) (step : Step) (reply : Reply) → judged_in_reply reply ≡ None → IsAnsweredAlike vc world step reply
not_judged vc world step reply e =
    plain-event world.shape.side vc (notes_in vc world) reply step e ∙ sym (ap (in_reply world.shape vc) e)

judges-alike : (vc : Vc) (world : World) (port : ℕ) (reply : Reply) (after : World) → WorldInvariant world → Judges world port reply after
    → IsAnsweredAlike vc world (Judge port) reply
judges-alike vc world port reply after sound w =
    let verdict : Verdict = verdict_on w.connection (cell_of_picking w.picking) in
    let leaving : List ℕ = cell_after verdict w.picking.cell in
    let cell : OwnAnswer = record { moment = w.picking.moment; value = w.picking.value; verdict = verdict; cell = leaving } in
    let outcome : Outcome = was_judged w.picking.moment w.picking.value (code_in world.loaded w.picking.program) verdict leaving in
    let vc_is : w.picking.vc ≡ vc_of world.shape.side leaving =
    (sound.ports port w.picking w.had).own ∙ sym (vc-after world.shape.side verdict w.picking.cell) in
    let choice : (b : Bool) → of_event (own_where b (judges port) outcome) ≡ cond b (cell ∷ []) [] = elim [
      | true ↦ refl
      | false ↦ refl
    ] in
    subst (λ (r : Reply). IsAnsweredAlike vc world (Judge port) r) (sym w.answer)
    (ap (λ b. of_event (own_where b (judges port) outcome)) (ap (has_own_in world.shape.side vc) w.had)
    ∙ choice (is_same_vc vc w.picking.vc)
    ∙ ap (λ (v : Vc). cond (is_same_vc vc v) (cell ∷ []) []) vc_is)

succeeded-alike : (vc : Vc) (world : World) (step : Step) (reply : Reply) (after : World) → WorldInvariant world → Succeeds world step reply after
    → IsAnsweredAlike vc world step reply
succeeded-alike vc world (Enter port cell moment) reply after sound w = not_judged vc world (Enter port cell moment) reply (ap judged_in_reply w.answer)
succeeded-alike vc world (Pick port) reply after sound w = not_judged vc world (Pick port) reply (ap judged_in_reply w.answer)
succeeded-alike vc world (Judge port) reply after sound w = judges-alike vc world port reply after sound w
succeeded-alike vc world (Load code) reply after sound w = not_judged vc world (Load code) reply (ap judged_in_reply w.answer)
succeeded-alike vc world (Retire id) reply after sound w = not_judged vc world (Retire id) reply (ap judged_in_reply w.answer)
succeeded-alike vc world (Setup ask) reply after sound w = not_judged vc world (Setup ask) reply (ap judged_in_reply w.answer)
succeeded-alike vc world (Reload other program) reply after sound w = not_judged vc world (Reload other program) reply (ap judged_in_reply w.answer)
succeeded-alike vc world (Release other) reply after sound w = not_judged vc world (Release other) reply (ap judged_in_reply w.answer)
succeeded-alike vc world (Cut other) reply after sound w = not_judged vc world (Cut other) reply (ap judged_in_reply w.answer)

step-alike : (vc : Vc) (world : World) (step : Step) (reply : Reply) (after : World) → WorldInvariant world → WorldStep world step reply after
    → IsAnsweredAlike vc world step reply
step-alike vc world step reply after sound w =
    let choice : (o : Option Reply) → refusal world step ≡ o
    → MatchOption o (Succeeds world step reply after ⊎ FindsNoMemory world step reply after)
    (λ refused. IsRefused world step refused reply after)
    → IsAnsweredAlike vc world step reply = elim [
      | None ↦ λ e w. elim w [
        | inl success ↦ succeeded-alike vc world step reply after sound success
        | inr memory ↦ not_judged vc world step reply (starved-not_judged step reply memory.answer)
      ]
      | Some refused ↦ λ e w. not_judged vc world step reply (ap judged_in_reply w.answer ∙ refused-not_judged world step refused e)
    ] in
    choice (refusal world step) refl w

-- The same for the events of a log.
module _ (vc : Vc) (shape : Shape) where
  own-later : (so_far log : List Event) (world end : World) → Leads shape so_far world → Run world log end → world.shape ≡ shape
      → (taken : ℕ) → ((line : ℕ) → length (world.verdicts line) ≤ taken) → taken + length log ≤ 2 ^ 62
      → judged_own (own_events_after shape.side vc (notes_in vc world) log) ≡ judged_on shape vc log
  own-later so_far [] world end leads run is taken counted within = refl
  own-later so_far (event ∷ log) world end leads run is taken counted within =
      let next : World = run.0 in
      let few : HasJudgedFew world = λ line. omega (arith, counted line, within) in
      let sound = worlds-sound shape so_far world leads in
      let effect : StepEffect vc world event.step event.reply next = step-effect vc world event.step event.reply next sound few run.1 in
      let noted : notes_after shape.side vc (notes_in vc world) event ≡ notes_in vc next =
      subst (λ (x : Shape). notes_after x.side vc (notes_in vc world) event ≡ notes_in vc next) is effect.notes in
      let own : Option OwnEvent = own_event shape.side vc (notes_in vc world) event.reply event.step in
      let alike : of_event own ≡ in_reply shape vc (judged_in_reply event.reply) =
      subst (λ (x : Shape). of_event (own_event x.side vc (notes_in vc world) event.reply event.step) ≡ in_reply x vc (judged_in_reply event.reply)) is
      (step-alike vc world event.step event.reply next sound run.1) in
      let rest : judged_own (own_events_after shape.side vc (notes_in vc next) log) ≡ judged_on shape vc log =
      own-later (so_far ++ event ∷ []) log next end
      (log-goes_on (opening_world shape) world next so_far event.step event.reply leads run.1) run.2 (effect.shape ∙ is) (suc taken)
      (λ line. omega (arith, effect.counts line, counted line)) (omega (arith, within)) in
      with_event-of own (own_events_after shape.side vc (notes_after shape.side vc (notes_in vc world) event) log)
      ∙ ap (λ (n : Notes). of_event own ++ judged_own (own_events_after shape.side vc n log)) noted
      ∙ ap (λ (l : List OwnAnswer). of_event own ++ l) rest
      ∙ ap (λ (l : List OwnAnswer). l ++ judged_on shape vc log) alike
      ∙ sym (reply-of shape vc event log)

pub judged-own : JudgedCellsAreOwn
judged-own shape log vc is within =
    let opening : World = opening_world shape in
    let notes : notes_in vc opening ≡ opening_notes =
    same-notes (notes_in vc opening) opening_notes refl (λ port. no-own shape.side vc shape.ports port) in
    subst (λ (n : Notes). judged_own (own_events_after shape.side vc n log) ≡ judged_on shape vc log) notes
    (own-later vc shape [] log opening is.0 refl is.1 refl 0 (λ line. omega (arith)) (omega (arith, within)))
