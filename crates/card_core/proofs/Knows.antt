-- Facts about a world from the log that leads to it: its codes, its connections, its ports and its verdicts.
use Rattle.std.proofs.Common.{◌≡◌, ℕ, List, [], ◌∷◌, ◌++◌, Some, false, slice_get, append_assoc, append-nil, refl, sym, ap, ◌∙◌, subst, inl, inr, arith}
use Rattle.upc_cell.specs.declared.vc.Vc.{Vc}
use Rattle.bpf_code.specs.declared.instr.Instr.{Instr}
use Rattle.gen_arena.specs.declared.id.Id.{Id}
use Rattle.card_core.specs.declared.ask.Ask.{Ask}
use Rattle.card_core.specs.declared.reply.Reply.{Reply}
use Rattle.card_core.specs.declared.reply.Reply.TheVariants.{Entered}
use Rattle.card_core.specs.declared.shape.Shape.{Shape}
use Rattle.card_core.specs.declared.step.Step.{Step}
use Rattle.card_core.specs.declared.step.Step.TheVariants.{Enter, Pick, Setup}
use Rattle.card_core.specs.World.{World, Loading, Connection, Picking, outside, entered, picked, code_in, connection_in, opening_world}
use Rattle.card_core.specs.Steps.{Gives, WorldStep}
use Rattle.card_core.specs.Log.{Event, Run, Leads}
use Rattle.card_core.specs.Headline.{Never, moves, changes, loads, retires, named_after, program_after, verdicts_on, cells_on, cells_judged_on, entering, picking, setting_up, HasEntered, IsInForceSince, IsLoadedOnce}
use Rattle.card_core.proofs.Sound.{WorldInvariant}
use Rattle.card_core.proofs.GivenOnce.{given-step, code-kept}
use Rattle.card_core.proofs.Effects.{Kept, IsFresh, kept, fresh, IsPickedNow, StepEffects}
use Rattle.card_core.proofs.EffectsOfSteps.{step-effects}
use Rattle.card_core.proofs.LookUps.{same_some, replicated}
use Rattle.card_core.proofs.SoundChanges.{opening-sound}
use Rattle.card_core.proofs.SoundSteps.{sound-step}
use Rattle.card_core.proofs.LogLemmas.{event_of, cut-more, never-nothing, never-more, verdicts_on-append, cells_on-append, cells_of-append, program_named-append}
use Rattle.card_core.proofs.KnowsCodes.{KnowsCodes, codes-step}

-- The connection agrees with the log since its setup, in all but its program.
pub record AgreesSince (shape : Shape) (log : List Event) (vc : Vc) (connection : Connection) (ask : Ask) (since : List Event) : Type 0 where
  pub in_force : IsInForceSince log vc ask since
  pub incarnation : in_force.incarnation ≡ connection.incarnation
  pub contracts : connection.contracts ≡ ask.contracts.items
  pub cells : connection.history ≡ cells_judged_on shape vc since
  pub held : connection.history ≡ cells_on connection.line since

-- Its program is the latest that the log gave it.
pub record KnowsConnection (shape : Shape) (log : List Event) (vc : Vc) (connection : Connection) : Type 0 where
  pub ask : Ask
  pub since : List Event
  pub agrees : AgreesSince shape log vc connection ask since
  pub program : connection.program ≡ program_after vc ask.program since

-- One more event.
pub agrees-more : (shape : Shape) (log : List Event) (vc : Vc) (old connection : Connection) (ask : Ask) (since : List Event) (step : Step) (reply : Reply)
    → Kept shape old connection vc step reply → AgreesSince shape log vc old ask since
    → AgreesSince shape (log ++ event_of step reply ∷ []) vc connection ask (since ++ event_of step reply ∷ [])
agrees-more shape log vc old connection ask since step reply keeps known =
    let event : Event = event_of step reply in
    record {
      in_force = record {
        earlier = known.in_force.earlier;
        incarnation = known.in_force.incarnation;
        asked = known.in_force.asked;
        cut = cut-more log known.in_force.earlier since (setting_up ask known.in_force.incarnation) event known.in_force.cut;
        unchanged = never-more (changes vc) since event known.in_force.unchanged keeps.unchanged;
      };
      incarnation = known.incarnation ∙ sym keeps.incarnation;
      contracts = keeps.contracts ∙ known.contracts;
      cells = keeps.cells ∙ ap (λ cells. cells ++ cells_judged_on shape vc (event ∷ [])) known.cells
          ∙ sym (cells_of-append shape vc since (event ∷ []));
      held = subst (λ line. connection.history ≡ cells_on line (since ++ event ∷ [])) (sym keeps.line)
          (keeps.held ∙ ap (λ cells. cells ++ cells_on old.line (event ∷ [])) known.held
          ∙ sym (cells_on-append old.line since (event ∷ [])));
    }

connection-more : (shape : Shape) (log : List Event) (vc : Vc) (old connection : Connection) (step : Step) (reply : Reply)
    → Kept shape old connection vc step reply → KnowsConnection shape log vc old
    → KnowsConnection shape (log ++ event_of step reply ∷ []) vc connection
connection-more shape log vc old connection step reply keeps known = record {
  ask = known.ask;
  since = known.since ++ event_of step reply ∷ [];
  agrees = agrees-more shape log vc old connection known.ask known.since step reply keeps known.agrees;
  program = keeps.program ∙ ap (λ (p : Id). named_after vc p reply step) known.program
      ∙ sym (program_named-append vc known.ask.program known.since (event_of step reply ∷ []));
}

connection-fresh : (shape : Shape) (log : List Event) (used : ℕ) (vc : Vc) (connection : Connection) (step : Step) (reply : Reply)
    → IsFresh used connection vc step reply → KnowsConnection shape (log ++ event_of step reply ∷ []) vc connection
connection-fresh shape log used vc connection step reply new =
    let now : KnowsConnection shape (log ++ setting_up new.ask connection.incarnation ∷ []) vc connection = record {
      ask = new.ask;
      since = [];
      agrees = record {
        in_force = record {
          earlier = log;
          incarnation = connection.incarnation;
          asked = new.asked;
          cut = refl;
          unchanged = never-nothing (changes vc);
        };
        incarnation = refl;
        contracts = new.contracts;
        cells = new.history;
        held = new.history;
      };
      program = new.program;
    } in
    subst (λ (s : Step). KnowsConnection shape (log ++ event_of s reply ∷ []) vc connection) (sym new.step_is)
    (subst (λ (r : Reply). KnowsConnection shape (log ++ event_of (Setup new.ask) r ∷ []) vc connection) (sym new.reply_is) now)

-- A cell entered, and its port hasn't moved since.
entered-more : (log : List Event) (port : ℕ) (cell : List ℕ) (moment : ℕ) (step : Step) (reply : Reply)
    → moves port (event_of step reply) ≡ false → HasEntered log port cell moment
    → HasEntered (log ++ event_of step reply ∷ []) port cell moment
entered-more log port cell moment step reply still known = record {
  earlier = known.earlier;
  later = known.later ++ event_of step reply ∷ [];
  cut = cut-more log known.earlier known.later (entering port cell moment) (event_of step reply) known.cut;
  alone = never-more (moves port) known.later (event_of step reply) known.alone still;
}

entered-now : (log : List Event) (port : ℕ) (cell : List ℕ) (moment : ℕ) (step : Step) (reply : Reply)
    → step ≡ Enter port cell moment → reply ≡ Entered → HasEntered (log ++ event_of step reply ∷ []) port cell moment
entered-now log port cell moment step reply step_is reply_is =
    let now : HasEntered (log ++ entering port cell moment ∷ []) port cell moment = record {
      earlier = log;
      later = [];
      cut = refl;
      alone = never-nothing (moves port);
    } in
    subst (λ (s : Step). HasEntered (log ++ event_of s reply ∷ []) port cell moment) (sym step_is)
    (subst (λ (r : Reply). HasEntered (log ++ event_of (Enter port cell moment) r ∷ []) port cell moment) (sym reply_is) now)

-- Facts about the connection of a picked cell: its state since its setup, and its program at the pick.
pub record KnowsPickedOn (shape : Shape) (log since : List Event) (port : ℕ) (pick : Picking) (connection : Connection) : Type 0 where
  pub ask : Ask
  pub until : List Event
  pub agrees : AgreesSince shape log pick.vc connection ask (until ++ picking port ∷ since)
  pub named : pick.program ≡ program_after pick.vc ask.program until

pub record KnowsPick (shape : Shape) (log : List Event) (given : List Loading) (connections : List (Vc × Connection)) (port : ℕ) (pick : Picking) : Type 0 where
  pub at_pick : List Event
  pub since : List Event
  pub cut : log ≡ at_pick ++ picking port ∷ since
  pub alone : Never (moves port) since
  pub arrived : HasEntered at_pick port pick.cell pick.moment
  pub code : List Instr
  pub given_code : code_in given pick.program ≡ Some code
  pub loaded : IsLoadedOnce at_pick pick.program code
  pub gives : Gives code pick.cell pick.value
  pub unchanged : (connection : Connection) → connection_in connections pick.vc ≡ Some connection
      → connection.incarnation ≡ pick.incarnation → KnowsPickedOn shape log since port pick connection

-- One more event that doesn't move the port.
pick-more : (shape : Shape) (log : List Event) (before after : World) (step : Step) (reply : Reply) (port : ℕ) (pick : Picking)
    → WorldInvariant before → StepEffects shape before step reply after
    → ((id : Id) (code : List Instr) → code_in before.loaded id ≡ Some code → code_in after.loaded id ≡ Some code)
    → slice_get before.ports port ≡ Some (picked pick) → moves port (event_of step reply) ≡ false
    → KnowsPick shape log before.loaded before.connections port pick
    → KnowsPick shape (log ++ event_of step reply ∷ []) after.loaded after.connections port pick
pick-more shape log before after step reply port pick sound effects keeps_codes had still known =
    let event : Event = event_of step reply in
    record {
      at_pick = known.at_pick;
      since = known.since ++ event ∷ [];
      cut = cut-more log known.at_pick known.since (picking port) event known.cut;
      alone = never-more (moves port) known.since event known.alone still;
      arrived = known.arrived;
      code = known.code;
      given_code = keeps_codes pick.program known.code known.given_code;
      loaded = known.loaded;
      gives = known.gives;
      unchanged = λ connection found same. elim (effects.connections pick.vc connection found) [
        | kept old at keeps ↦
            let on = known.unchanged old at (sym keeps.incarnation ∙ same) in
            record {
              ask = on.ask;
              until = on.until;
              agrees = subst (λ (s : List Event). AgreesSince shape (log ++ event ∷ []) pick.vc connection on.ask s)
                  (append_assoc on.until (picking port ∷ known.since) (event ∷ []))
                  (agrees-more shape log pick.vc old connection on.ask (on.until ++ picking port ∷ known.since) step reply keeps on.agrees);
              named = on.named;
            }
        | fresh new ↦ absurd (omega (arith, new.later, same, (sound.ports port pick had).old))
      ];
    }

-- The event in which the cell is picked.
pick-now : (shape : Shape) (log : List Event) (before after : World) (step : Step) (reply : Reply) (port : ℕ) (pick : Picking)
    → StepEffects shape before step reply after
    → ((id : Id) (code : List Instr) → code_in before.loaded id ≡ Some code → code_in after.loaded id ≡ Some code)
    → KnowsCodes log before.loaded before.live
    → ((vc : Vc) (connection : Connection) → connection_in before.connections vc ≡ Some connection → KnowsConnection shape log vc connection)
    → HasEntered log port pick.cell pick.moment
    → WorldInvariant before
    → IsPickedNow before port pick step reply
    → KnowsPick shape (log ++ event_of step reply ∷ []) after.loaded after.connections port pick
pick-now shape log before after step reply port pick effects keeps_codes codes connections arrived sound now =
    let event : Event = event_of step reply in
    let event_is : event ≡ picking port =
    ap (λ (s : Step). event_of s reply) now.step_is ∙ ap (λ (r : Reply). event_of (Pick port) r) now.reply_is in
    record {
      at_pick = log;
      since = [];
      cut = ap (λ (e : Event). log ++ e ∷ []) event_is;
      alone = never-nothing (moves port);
      arrived = arrived;
      code = now.code;
      given_code = keeps_codes pick.program now.code now.given;
      loaded = codes.loaded pick.program now.code now.given;
      gives = now.gives;
      unchanged = λ connection found same. elim (effects.connections pick.vc connection found) [
        | kept old at keeps ↦
            let known = connections pick.vc old at in
            let named : pick.program ≡ old.program =
            now.program ∙ ap (λ (c : Connection). c.program) (same_some now.connection old (sym now.found ∙ at)) in
            record {
              ask = known.ask;
              until = known.since;
              agrees = subst (λ (e : Event). AgreesSince shape (log ++ event ∷ []) pick.vc connection known.ask (known.since ++ e ∷ []))
                  event_is
                  (agrees-more shape log pick.vc old connection known.ask known.since step reply keeps known.agrees);
              named = named ∙ known.program;
            }
        | fresh new ↦
            let was = (sound.connections.each pick.vc now.connection now.found).old in
            absurd (omega (arith, new.later, same, now.incarnation, was))
      ];
    }

-- Facts from a log about all parts of the world that it leads to.
pub record Knows (shape : Shape) (log : List Event) (world : World) : Type 0 where
  pub shape_is : world.shape ≡ shape
  pub codes : KnowsCodes log world.loaded world.live
  pub connections : (vc : Vc) (connection : Connection) → connection_in world.connections vc ≡ Some connection
      → KnowsConnection shape log vc connection
  pub entered_ports : (port : ℕ) (cell : List ℕ) (moment : ℕ) → slice_get world.ports port ≡ Some (entered cell moment)
      → HasEntered log port cell moment
  pub picked_ports : (port : ℕ) (pick : Picking) → slice_get world.ports port ≡ Some (picked pick)
      → KnowsPick shape log world.loaded world.connections port pick
  pub verdicts : (line : ℕ) → world.verdicts line ≡ verdicts_on line log

knows-opening : (shape : Shape) → Knows shape [] (opening_world shape)
knows-opening shape = record {
  shape_is = refl;
  codes = record {
    loaded = λ id code e. absurd (cc);
    unloaded = λ id e. never-nothing (loads id);
    kept = λ id code e. absurd (cc);
    untouched = λ id e. never-nothing (retires id);
  };
  connections = λ vc connection e. absurd (cc);
  entered_ports = λ port cell moment e.
      let none : outside ≡ entered cell moment = replicated shape.ports port outside (entered cell moment) e in absurd (cc);
  picked_ports = λ port pick e.
      let none : outside ≡ picked pick = replicated shape.ports port outside (picked pick) e in absurd (cc);
  verdicts = λ line. refl;
}

pub knows-step : (shape : Shape) (log : List Event) (before after : World) (step : Step) (reply : Reply) → WorldInvariant before
    → Knows shape log before → WorldStep before step reply after → Knows shape (log ++ event_of step reply ∷ []) after
knows-step shape log before after step reply sound known w =
    let effects = step-effects shape before step reply after sound known.shape_is w in
    let keeps_codes = code-kept before.loaded after.loaded (given-step before step reply after sound w) in
    record {
      shape_is = effects.shape_same ∙ known.shape_is;
      codes = codes-step log before after step reply sound known.codes effects.store;
      connections = λ vc connection found. elim (effects.connections vc connection found) [
        | kept old at keeps ↦ connection-more shape log vc old connection step reply keeps (known.connections vc old at)
        | fresh new ↦ connection-fresh shape log before.incarnations vc connection step reply new
      ];
      entered_ports = λ port cell moment e. elim (effects.ports.entered_ports port cell moment e) [
        | inl stays ↦ entered-more log port cell moment step reply stays.1 (known.entered_ports port cell moment stays.0)
        | inr now ↦ entered-now log port cell moment step reply now.0 now.1
      ];
      picked_ports = λ port pick e. elim (effects.ports.picked_ports port pick e) [
        | inl stays ↦
            pick-more shape log before after step reply port pick sound effects keeps_codes stays.0 stays.1
            (known.picked_ports port pick stays.0)
        | inr now ↦
            pick-now shape log before after step reply port pick effects keeps_codes known.codes known.connections
            (known.entered_ports port pick.cell pick.moment now.had) sound now
      ];
      verdicts = λ line.
          effects.verdicts line ∙ ap (λ verdicts. verdicts ++ verdicts_on line (event_of step reply ∷ [])) (known.verdicts line)
          ∙ sym (verdicts_on-append line log (event_of step reply ∷ []));
    }

pub knows-run : (shape : Shape) (log : List Event) (before : World) (further : List Event) (after : World) → WorldInvariant before
    → Knows shape log before → Run before further after → Knows shape (log ++ further) after
knows-run shape log before [] after sound known run =
    subst (λ (w : World). Knows shape (log ++ []) w) (sym run)
    (subst (λ (l : List Event). Knows shape l before) (sym (append-nil log)) known)
knows-run shape log before (event ∷ later) after sound known run =
    subst (λ (l : List Event). Knows shape l after) (append_assoc log (event ∷ []) later)
    (knows-run shape (log ++ event ∷ []) run.0 later after
    (sound-step before event.step event.reply run.0 sound run.1)
    (knows-step shape log before run.0 event.step event.reply sound known run.1) run.2)

pub leads-knows : (shape : Shape) (log : List Event) (world : World) → Leads shape log world → Knows shape log world
leads-knows shape log world leads =
    knows-run shape [] (opening_world shape) log world (opening-sound shape) (knows-opening shape) leads
