-- Kept connections, and so each connection, are served as on a card that has no other connections.
use Rattle.std.proofs.Common.{◌≡◌, ℕ, zero, ◌+◌, ◌^◌, suc, ◌≤◌, Bool, true, List, [], ◌∷◌, ◌++◌, length, replicate, Option, Some, None, slice_get, All, refl, sym, ap, ◌∙◌, subst, inl, inr, arith}
use Rattle.std.proofs.lemmas.List.Elements.{All-cons, All-nil}
use Rattle.std.proofs.lemmas.Option.{same_Some}
use Rattle.upc_cell.specs.declared.side.Side.{Side}
use Rattle.upc_cell.specs.declared.vc.Vc.{Vc}
use Rattle.upc_cell.specs.Connection.{is_same_vc}
use Rattle.upc_cell.proofs.Public.{vc_itself}
use Rattle.card_core.specs.declared.shape.Shape.{Shape}
use Rattle.card_core.specs.World.{World, PortState, outside, opening_world}
use Rattle.card_core.specs.Log.{Event, Run, Leads}
use Rattle.card_core.proofs.Public.{worlds-sound, log-goes_on}
use Rattle.card_isolation.specs.OwnEvents.{OwnEvent, Notes, notes_after, own_event, with_event, own_events_after, opening_notes}
use Rattle.card_isolation.specs.Restriction.{is_for_no_other_than, LeavesOutSteps, AreServedAlike, KeptConnectionsAreServedAlike, EachIsServedAsAlone}
use Rattle.card_isolation.proofs.Views.{event_of, notes_in, StepEffect, same-notes}
use Rattle.card_isolation.proofs.Steps.{HasJudgedFew, step-effect}
use Rattle.card_isolation.proofs.Shadow.{Shadows}
use Rattle.card_isolation.proofs.Follows.{stays, goes_too, any_vc, AreBeside}
use Rattle.card_isolation.proofs.Restricted.{step-follows}
use Rattle.card_isolation.proofs.Isolated.{no-own}

-- The shadow's own log, if the world's log continues like this.
record GoesAlone (shape : Shape) (kept : Vc → Bool) (world shadow : World) (log : List Event) : Type 0 where
  pub restricted : List Event
  pub end : World
  pub run : Run shadow restricted end
  pub leaves_out : LeavesOutSteps restricted log
  pub only_kept : All (λ event. is_for_no_other_than shape.side kept event.step ≡ true) restricted
  pub same : (vc : Vc) → kept vc ≡ true
      → own_events_after shape.side vc (notes_in vc shadow) restricted ≡ own_events_after shape.side vc (notes_in vc world) log

-- One more step may be left out.
left-out : (event : Event) (log restricted : List Event) → LeavesOutSteps restricted log → LeavesOutSteps restricted (event ∷ log)
left-out event log [] leaves = tt
left-out event log (first ∷ later) leaves = inr leaves

-- The own events of a log are that of its first event, if it is one, and those of the rest.
first-own : (side : Side) (vc : Vc) (notes after : Notes) (event : Event) (later : List Event) (own : Option OwnEvent)
    → own_event side vc notes event.reply event.step ≡ own → notes_after side vc notes event ≡ after
    → own_events_after side vc notes (event ∷ later) ≡ with_event own (own_events_after side vc after later)
first-own side vc notes after event later own is noted =
    ap (λ (o : Option OwnEvent). with_event o (own_events_after side vc (notes_after side vc notes event) later)) is
    ∙ ap (λ (n : Notes). with_event own (own_events_after side vc n later)) noted

module _ (kept : Vc → Bool) (shape : Shape) where
  goes-alone : (so_far own_so_far log : List Event) (world shadow end : World) → Leads shape so_far world → Leads shape own_so_far shadow
      → Run world log end → Shadows kept world shadow → world.shape ≡ shape → (taken : ℕ)
      → ((line : ℕ) → length (world.verdicts line) ≤ taken) → ((line : ℕ) → length (shadow.verdicts line) ≤ taken)
      → taken + length log ≤ 2 ^ 62 → GoesAlone shape kept world shadow log
  goes-alone so_far own_so_far [] world shadow end leads leads_too run s is taken counted counted_too within = record {
    restricted = [];
    end = shadow;
    run = refl;
    leaves_out = tt;
    only_kept = All-nil (λ event. is_for_no_other_than shape.side kept event.step ≡ true);
    same = λ vc kept. refl;
  }
  goes-alone so_far own_so_far (event ∷ log) world shadow end leads leads_too run s is taken counted counted_too within =
      let next : World = run.0 in
      let few : HasJudgedFew world = λ line. omega (arith, counted line, within) in
      let few_too : HasJudgedFew shadow = λ line. omega (arith, counted_too line, within) in
      let sound = worlds-sound shape so_far world leads in
      let sound_too = worlds-sound shape own_so_far shadow leads_too in
      let effect : (vc : Vc) → StepEffect vc world event.step event.reply next = λ vc. step-effect vc world event.step event.reply next sound few run.1 in
      let leads_next : Leads shape (so_far ++ event ∷ []) next =
      log-goes_on (opening_world shape) world next so_far event.step event.reply leads run.1 in
      let counted_next : (line : ℕ) → length (next.verdicts line) ≤ suc taken = λ line. omega (arith, (effect (any_vc world)).counts line, counted line) in
      let is_next : next.shape ≡ shape = (effect (any_vc world)).shape ∙ is in
      let noted : (vc : Vc) → notes_after shape.side vc (notes_in vc world) event ≡ notes_in vc next = λ vc.
      subst (λ (x : Shape). notes_after x.side vc (notes_in vc world) event ≡ notes_in vc next) is (effect vc).notes in
      let own : Vc → Option OwnEvent = λ vc. own_event shape.side vc (notes_in vc world) event.reply event.step in
      let beside : AreBeside kept world shadow = record {
        shadows = s;
        sound = sound;
        sound_too = sound_too;
        few = few;
        few_too = few_too;
        shape = shape;
        log = own_so_far;
        leads = leads_too;
      } in
      elim (step-follows beside event.step event.reply next run.1) [
        | stays none shadows ↦
            let rest = goes-alone (so_far ++ event ∷ []) own_so_far log next shadow end leads_next leads_too run.2 shadows is_next
            (suc taken) counted_next (λ line. omega (arith, counted_too line)) (omega (arith, within)) in
            let none_here : (vc : Vc) → kept vc ≡ true → own vc ≡ None = λ vc is_kept.
            subst (λ (x : Shape). own_event x.side vc (notes_in vc world) event.reply event.step ≡ None) is (none vc is_kept) in
            record {
              restricted = rest.restricted;
              end = rest.end;
              run = rest.run;
              leaves_out = left-out event log rest.restricted rest.leaves_out;
              only_kept = rest.only_kept;
              same = λ vc is_kept.
                  rest.same vc is_kept
                  ∙ sym (first-own shape.side vc (notes_in vc world) (notes_in vc next) event log None (none_here vc is_kept) (noted vc));
            }
        | goes_too answered later stepped only_kept one shadows ↦
            let event_too : Event = event_of event.step answered in
            let effect_too : (vc : Vc) → StepEffect vc shadow event.step answered later = λ vc.
            step-effect vc shadow event.step answered later sound_too few_too stepped in
            let rest = goes-alone (so_far ++ event ∷ []) (own_so_far ++ event_too ∷ []) log next later end leads_next
            (log-goes_on (opening_world shape) shadow later own_so_far event.step answered leads_too stepped) run.2 shadows is_next
            (suc taken) counted_next (λ line. omega (arith, (effect_too (any_vc world)).counts line, counted_too line)) (omega (arith, within)) in
            let is_too : shadow.shape ≡ shape = s.shape ∙ is in
            let noted_too : (vc : Vc) → notes_after shape.side vc (notes_in vc shadow) event_too ≡ notes_in vc later = λ vc.
            subst (λ (x : Shape). notes_after x.side vc (notes_in vc shadow) event_too ≡ notes_in vc later) is_too (effect_too vc).notes in
            let one_here : (vc : Vc) → kept vc ≡ true → own_event shape.side vc (notes_in vc shadow) answered event.step ≡ own vc = λ vc is_kept.
            subst (λ (x : Shape). own_event x.side vc (notes_in vc shadow) answered event.step ≡ own vc) is_too
            (subst (λ (x : Shape). own_event shadow.shape.side vc (notes_in vc shadow) answered event.step ≡ own_event x.side vc (notes_in vc world) event.reply event.step) is
            (one vc is_kept)) in
            record {
              restricted = event_too ∷ rest.restricted;
              end = rest.end;
              run = (later, stepped, rest.run);
              leaves_out = inl (refl, rest.leaves_out);
              only_kept = All-cons (λ event. is_for_no_other_than shape.side kept event.step ≡ true) event_too rest.restricted
                  (subst (λ (x : Shape). is_for_no_other_than x.side kept event.step ≡ true) is only_kept) rest.only_kept;
              same = λ vc is_kept.
                  first-own shape.side vc (notes_in vc shadow) (notes_in vc later) event_too rest.restricted (own vc) (one_here vc is_kept) (noted_too vc)
                  ∙ ap (with_event (own vc)) (rest.same vc is_kept)
                  ∙ sym (first-own shape.side vc (notes_in vc world) (notes_in vc next) event log (own vc) refl (noted vc));
            }
      ]

all-outside : (ports port : ℕ) (state : PortState) → slice_get (replicate ports outside) port ≡ Some state → state ≡ outside
all-outside zero port state e = absurd (cc)
all-outside (suc ports) zero state e = sym (same_Some outside state e)
all-outside (suc ports) (suc port) state e = all-outside ports port state e

opening-shadows : (kept : Vc → Bool) (shape : Shape) → Shadows kept (opening_world shape) (opening_world shape)
opening-shadows kept shape = record {
  shape = refl;
  loaded = refl;
  live = refl;
  alone = λ vc is. refl;
  holding = λ vc is. refl;
  incarnations = omega (arith);
  others = λ vc isnt. refl;
  ports = λ port state at none. all-outside shape.ports port state at;
}

pub kept-served : KeptConnectionsAreServedAlike
kept-served shape log kept is within =
    let opening : World = opening_world shape in
    let went : GoesAlone shape kept opening opening log =
    goes-alone kept shape [] [] log opening opening is.0 refl refl is.1 (opening-shadows kept shape) refl 0
    (λ line. omega (arith)) (λ line. omega (arith)) (omega (arith, within)) in
    let notes : (vc : Vc) → notes_in vc opening ≡ opening_notes = λ vc.
    same-notes (notes_in vc opening) opening_notes refl (λ port. no-own shape.side vc shape.ports port) in
    record {
      restricted = went.restricted;
      is_log = (went.end, went.run);
      leaves_out = went.leaves_out;
      only_kept = went.only_kept;
      same = λ vc is_kept.
          ap (λ (n : Notes). own_events_after shape.side vc n went.restricted) (sym (notes vc))
          ∙ went.same vc is_kept
          ∙ ap (λ (n : Notes). own_events_after shape.side vc n log) (notes vc);
    }

-- One connection is served as if only this one is kept.
pub served-alone : EachIsServedAsAlone
served-alone shape log vc is within =
    let served : AreServedAlike shape (λ other. is_same_vc vc other) log = kept-served shape log (λ other. is_same_vc vc other) is within in
    record {
      alone = served.restricted;
      is_log = served.is_log;
      leaves_out = served.leaves_out;
      no_other = served.only_kept;
      same = served.same vc (vc_itself vc);
    }
