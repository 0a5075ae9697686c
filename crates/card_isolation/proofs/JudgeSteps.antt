-- The effect of a Judge on a connection, and of a Pick that is refused.
use Rattle.std.proofs.Common.{◌≡◌, ℕ, ◌^◌, suc, ◌<◌, ◌≤◌, ◌==◌, Bool, true, false, cond, if◌then◌else◌, List, [], ◌∷◌, ◌++◌, map, length, drop, set, Option, Some, None, is_none, slice_get, option_map, nat_lt, nat_le, refl, sym, ap, ◌∙◌, subst, arith}
use Rattle.std.proofs.lemmas.List.{map-append, drop-map, length-map, length_push}
use Rattle.std.proofs.lemmas.Option.{same_Some}
use Rattle.upc_cell.specs.declared.side.Side.{Side}
use Rattle.upc_cell.specs.declared.vc.Vc.{Vc}
use Rattle.upc_cell.specs.Connection.{vc_of, is_same_vc}
use Rattle.upc_cell.proofs.Public.{vc_same}
use Rattle.bpf_code.specs.declared.instr.Instr.{Instr}
use Rattle.leaky.specs.declared.verdict.Verdict.{Verdict}
use Rattle.line_record.specs.History.{NamedCell, last_moment}
use Rattle.card_core.specs.declared.answer.Answer.{Answer}
use Rattle.card_core.specs.declared.answer.Answer.TheVariants.{MomentTooLate, MomentBack, JournalFull}
use Rattle.card_core.specs.declared.answer.Answer.TheVariants as cell_answers
use Rattle.card_core.specs.declared.reply.Reply.{Reply}
use Rattle.card_core.specs.declared.reply.Reply.TheVariants.{NotNow, Answered}
use Rattle.card_core.specs.declared.step.Step.{Step}
use Rattle.card_core.specs.declared.step.Step.TheVariants.{Judge, Pick}
use Rattle.card_core.specs.World.{World, Loading, Connection, Picking, PortState, outside, entered, picked, code_in, kept_cells, connection_in, with_connection, with_port, with_verdict}
use Rattle.card_core.specs.Refusals.{refusal, pick_refusal, judge_refusal, picking_refusal, cell_refusal}
use Rattle.card_core.specs.Steps.{Judges, cell_after, cell_of_picking, with_cell, verdict_on, judged_world, judged_answer, left_by_pick, left_by_judge}
use Rattle.card_isolation.specs.Act.{looks_up, judges}
use Rattle.card_isolation.specs.Outcome.{Outcome, was_judged, was_not_judged, outcome_of}
use Rattle.card_isolation.specs.OwnEvents.{own_where, notes_after}
use Rattle.card_core.proofs.LookUps.{unmapped, mapped}
use Rattle.card_isolation.proofs.Basics.{pointwise, with_at, with_at-same, seen-set}
use Rattle.card_isolation.proofs.Forgotten.{forgotten, last-forgotten, verdict-forgotten}
use Rattle.card_isolation.proofs.Connections.{with-here, with-others, found-same}
use Rattle.card_isolation.proofs.Alone.{OwnConnection, Place, idle, came, looked, Alone, LooksUp, found_alone, cell_alone, moment_refusal, refusal_alone, judged_alone, answered_alone, outcome_at, with_judged, kept_alone, judged_at, is_idle}
use Rattle.card_isolation.proofs.Views.{event_of, own_connection_of, is_current, place_of, has_own_in, alone_of, alone_in, notes_in, Goes, StepEffect, no-more, same-notes, same-alone, goes-by, effect-at}
use Rattle.card_isolation.proofs.PortSteps.{places-set, noted-set}

-- A cell is refused on the card exactly if the connection on its own refuses it, while no line is full.

few : (journal : ℕ) (judged : List Verdict) → length judged < 2 ^ 62 → nat_le (2 ^ 62) (length judged) ≡ false
few journal judged less = grind (arith)

kept-forgotten : (given : List Loading) (connection : Connection)
    → length (drop (own_connection_of given connection).returned (own_connection_of given connection).history) ≡ length (kept_cells connection)
kept-forgotten given connection =
    ap (λ (l : List NamedCell). length l) (drop-map forgotten connection.returned connection.history)
    ∙ length-map (kept_cells connection) forgotten

cell-alike : (world : World) (connection : Connection) (moment : ℕ) → length (world.verdicts connection.line) < 2 ^ 62
    → cell_refusal world connection moment ≡ moment_refusal world.shape.journal (own_connection_of world.loaded connection) moment
cell-alike world connection moment less =
    let refusal_at : ℕ → ℕ → Bool → Option Answer = λ last kept full.
    if nat_lt (2 ^ 62) moment then Some MomentTooLate
    else if nat_lt moment last then Some (MomentBack last)
    else if nat_le world.shape.journal kept then Some JournalFull
    else if full then Some JournalFull
    else None in
    ap (refusal_at (last_moment 0 connection.history) (length (kept_cells connection)))
    (few world.shape.journal (world.verdicts connection.line) less)
    ∙ ap (λ last. refusal_at last (length (kept_cells connection)) false) (sym (last-forgotten 0 connection.history))
    ∙ ap (λ kept. refusal_at (last_moment 0 (map forgotten connection.history)) kept false) (sym (kept-forgotten world.loaded connection))

picking-alike : (world : World) (picking : Picking) (found : Option Connection) → ((line : ℕ) → length (world.verdicts line) < 2 ^ 62)
    → picking_refusal world picking found
    ≡ refusal_alone world.shape.journal (option_map (own_connection_of world.loaded) found) picking.moment (is_current found picking)
picking-alike world picking None less = refl
picking-alike world picking (Some connection) less =
    ap (λ (o : Option Answer). if connection.incarnation == picking.incarnation then o else Some cell_answers.Released)
    (cell-alike world connection picking.moment (less connection.line))

-- The answer to a cell that isn't judged is its outcome.

abbrev pub IsPlain : Answer → Type 0
IsPlain answer = (codes : List Loading) → outcome_of codes answer ≡ was_not_judged answer

plain : (test : Bool) (refused : Answer) (rest : Option Answer) → IsPlain refused
    → ((answer : Answer) → rest ≡ Some answer → IsPlain answer)
    → (answer : Answer) → cond test (Some refused) rest ≡ Some answer → IsPlain answer
plain true refused rest here later answer e = subst IsPlain (same_Some refused answer e) here
plain false refused rest here later answer e = later answer e

cell-plain : (world : World) (connection : Connection) (moment : ℕ) (answer : Answer)
    → cell_refusal world connection moment ≡ Some answer → IsPlain answer
cell-plain world connection moment =
    plain (nat_lt (2 ^ 62) moment) MomentTooLate _ (λ codes. refl)
    (plain (nat_lt moment (last_moment 0 connection.history)) (MomentBack (last_moment 0 connection.history)) _ (λ codes. refl)
    (plain (nat_le world.shape.journal (length (kept_cells connection))) JournalFull _ (λ codes. refl)
    (plain (nat_le (2 ^ 62) (length (world.verdicts connection.line))) JournalFull None (λ codes. refl)
    (λ answer e. absurd (cc)))))

pub picking-plain : (world : World) (picking : Picking) (found : Option Connection) (answer : Answer)
    → picking_refusal world picking found ≡ Some answer → IsPlain answer
picking-plain world picking None answer e = subst IsPlain (same_Some cell_answers.Released answer e) (λ codes. refl)
picking-plain world picking (Some connection) answer e =
    let choice : (b : Bool) → cond b (cell_refusal world connection picking.moment) (Some cell_answers.Released) ≡ Some answer
    → IsPlain answer = elim [
      | true ↦ λ e. cell-plain world connection picking.moment answer e
      | false ↦ λ e. subst IsPlain (same_Some cell_answers.Released answer e) (λ codes. refl)
    ] in
    choice (connection.incarnation == picking.incarnation) e

-- The port's cell is answered: the reader's state of the port.
noted-answered : (vc : Vc) (before : World) (port : ℕ) (old : PortState) → slice_get before.ports port ≡ Some old
    → (λ other. cond (other == port) false (has_own_in before.shape.side vc (slice_get before.ports other)))
    ≡ (notes_in vc (with_port before port outside)).has_own
noted-answered vc before port old had = sym (noted-set vc before port old outside had)

-- At most one more verdict on each line.
one-more : (judged : ℕ → List Verdict) (line : ℕ) (verdict : Verdict) (other : ℕ)
    → length (with_verdict judged line verdict other) ≤ suc (length (judged other))
one-more judged line verdict other =
    let choice : (b : Bool) → length (cond b (judged other ++ verdict ∷ []) (judged other)) ≤ suc (length (judged other)) = elim [
      | true ↦ omega (arith, length_push (judged other) verdict)
      | false ↦ no-more (judged other)
    ] in
    choice (other == line)

module _ (vc : Vc) (before : World) (less : (line : ℕ) → length (before.verdicts line) < 2 ^ 62) (port : ℕ) (picking : Picking) (had : slice_get before.ports port ≡ Some (picked picking)) where
  abbrev side_is : Side
  side_is = before.shape.side

  abbrev journal_is : ℕ
  journal_is = before.shape.journal

  abbrev here : Option Connection
  here = connection_in before.connections vc

  abbrev own : Bool
  own = is_same_vc vc picking.vc

  abbrev code_is : Option (List Instr)
  code_is = code_in before.loaded picking.program

  abbrev looked_is : Place
  looked_is = looked picking.cell picking.moment picking.value code_is (is_current here picking)

  own_here : has_own_in side_is vc (slice_get before.ports port) ≡ own
  own_here = ap (has_own_in side_is vc) had

  place_here : (alone_in vc before).places port ≡ cond own looked_is idle
  place_here = ap (place_of side_is vc before.loaded here) had

  place_own : own ≡ true → (alone_in vc before).places port ≡ looked_is
  place_own e = place_here ∙ ap (λ b. cond b looked_is idle) e

  place_none : own ≡ false → (alone_in vc before).places port ≡ idle
  place_none e = place_here ∙ ap (λ b. cond b looked_is idle) e

  -- For this connection the card refuses as the connection on its own does.
  refusal_own : (refused : Option Answer) → own ≡ true → picking_refusal before picking (connection_in before.connections picking.vc) ≡ refused
      → refusal_alone journal_is (alone_in vc before).connection picking.moment (is_current here picking) ≡ refused
  refusal_own refused e is =
      sym (picking-alike before picking here less)
      ∙ ap (λ (v : Vc). picking_refusal before picking (connection_in before.connections v)) (vc_same vc picking.vc e)
      ∙ is

  -- The cell is refused.
  effect-unjudged : (answer : Answer) → picking_refusal before picking (connection_in before.connections picking.vc) ≡ Some answer
      → StepEffect vc before (Judge port) (Answered answer) (with_port before port outside)
  effect-unjudged answer is =
      let alone : Alone = alone_in vc before in
      let later : World = with_port before port outside in
      let outcome : Outcome = outcome_of before.loaded answer in
      let next : Alone = record alone { places = with_at alone.places port idle } in
      let choice : (b : Bool) → own ≡ b → Goes journal_is (own_where b (judges port) outcome) alone next = elim [
        | true ↦ λ e.
            let refused = refusal_own (Some answer) e is in
            let answered : outcome_at journal_is alone.connection (alone.places port) ≡ was_not_judged answer =
            ap (outcome_at journal_is alone.connection) (place_own e)
            ∙ ap (λ (o : Option Answer). answered_alone o (judged_alone alone.connection picking.cell picking.moment picking.value code_is)) refused in
            let kept : judged_at journal_is alone.connection (alone.places port) ≡ alone.connection =
            ap (judged_at journal_is alone.connection) (place_own e)
            ∙ ap (λ (o : Option Answer). kept_alone o alone.connection (with_judged alone.connection (cell_alone picking.cell picking.moment picking.value))) refused in
            record {
              fits = ap is_idle (place_own e);
              outcome = picking-plain before picking (connection_in before.connections picking.vc) answer is before.loaded ∙ sym answered;
              next = ap (λ (c : Option OwnConnection). record next { connection = c }) (sym kept);
            }
        | false ↦ λ e. ap (λ (p : ℕ → Place). record alone { places = p }) (with_at-same alone.places port idle (place_none e))
      ] in
      record {
        shape = refl;
        notes = same-notes (notes_after side_is vc (notes_in vc before) (event_of (Judge port) (Answered answer))) (notes_in vc later) refl
            (λ other. ap (λ (has : ℕ → Bool). has other) (noted-answered vc before port (picked picking) had));
        own = goes-by journal_is (own_where (has_own_in side_is vc (slice_get before.ports port)) (judges port) outcome)
            (own_where own (judges port) outcome) alone next (alone_in vc later)
            (ap (λ b. own_where b (judges port) outcome) own_here)
            (places-set vc before port (picked picking) outside had) (choice own refl);
        counts = λ line. no-more (before.verdicts line);
      }

  -- The cell is judged on the connection that was found.
  module _ (connection : Connection) (found : connection_in before.connections picking.vc ≡ Some connection) (allowed : picking_refusal before picking (connection_in before.connections picking.vc) ≡ None) where
    abbrev verdict_is : Verdict
    verdict_is = verdict_on connection (cell_of_picking picking)

    abbrev own_connection_is : OwnConnection
    own_connection_is = own_connection_of before.loaded connection

    abbrev cell_is : NamedCell
    cell_is = cell_alone picking.cell picking.moment picking.value

    abbrev longer : Connection
    longer = with_cell connection (cell_of_picking picking)

    abbrev outcome_is : Outcome
    outcome_is = was_judged picking.moment picking.value code_is verdict_is (cell_after verdict_is picking.cell)

    connection_own : own ≡ true → (alone_in vc before).connection ≡ Some own_connection_is
    connection_own e =
        ap (option_map (own_connection_of before.loaded)) (found-same before.connections vc picking.vc (Some connection) e found)

    judged_alike : judged_alone (Some own_connection_is) picking.cell picking.moment picking.value code_is ≡ outcome_is
    judged_alike =
        ap (λ verdict. was_judged picking.moment picking.value code_is verdict (cell_after verdict picking.cell))
        (verdict-forgotten connection.contracts connection.history (cell_of_picking picking))

    outcome_own : own ≡ true → outcome_is ≡ outcome_at journal_is (alone_in vc before).connection ((alone_in vc before).places port)
    outcome_own e = sym (
        ap (outcome_at journal_is (alone_in vc before).connection) (place_own e)
        ∙ ap (λ (o : Option Answer). answered_alone o (judged_alone (alone_in vc before).connection picking.cell picking.moment picking.value code_is))
        (refusal_own None e allowed)
        ∙ ap (λ (c : Option OwnConnection). judged_alone c picking.cell picking.moment picking.value code_is) (connection_own e)
        ∙ judged_alike
        )

    longer_own : own ≡ true → Some (own_connection_of before.loaded longer) ≡ judged_at journal_is (alone_in vc before).connection ((alone_in vc before).places port)
    longer_own e = sym (
        ap (judged_at journal_is (alone_in vc before).connection) (place_own e)
        ∙ ap (λ (o : Option Answer). kept_alone o (alone_in vc before).connection (with_judged (alone_in vc before).connection cell_is))
        (refusal_own None e allowed)
        ∙ ap (λ (c : Option OwnConnection). with_judged c cell_is) (connection_own e)
        ∙ ap (λ (h : List NamedCell). Some (record own_connection_is { history = h })) (sym (map-append forgotten connection.history (cell_of_picking picking ∷ [])))
        )

    -- The connection's part of the ports doesn't depend on its history.
    place_longer : (o : Option PortState) → place_of side_is vc before.loaded (Some longer) o ≡ place_of side_is vc before.loaded (Some connection) o
    place_longer None = refl
    place_longer (Some outside) = refl
    place_longer (Some (entered cell moment)) = refl
    place_longer (Some (picked other)) = refl

    after_own : own ≡ true → alone_in vc (judged_world before port picking connection)
        ≡ record {
          connection = judged_at journal_is (alone_in vc before).connection ((alone_in vc before).places port);
          places = with_at (alone_in vc before).places port idle;
        }
    after_own e =
        let conns = with_connection before.connections picking.vc longer in
        let now : connection_in conns vc ≡ Some longer = with-here before.connections picking.vc vc longer e in
        let was : here ≡ Some connection = found-same before.connections vc picking.vc (Some connection) e found in
        let ports : List PortState = set before.ports port outside in
        ap (λ (o : Option Connection). alone_of side_is vc before.loaded o ports) now
        ∙ same-alone (alone_of side_is vc before.loaded (Some longer) ports)
        (record {
          connection = judged_at journal_is (alone_in vc before).connection ((alone_in vc before).places port);
          places = with_at (alone_in vc before).places port idle;
        })
        (longer_own e)
        (pointwise (alone_of side_is vc before.loaded (Some longer) ports).places (alone_of side_is vc before.loaded (Some connection) ports).places
        (λ other. place_longer (slice_get ports other))
        ∙ ap (λ (o : Option Connection). (alone_of side_is vc before.loaded o ports).places) (sym was)
        ∙ seen-set (place_of side_is vc before.loaded here) before.ports port outside (picked picking) had)

    after_other : own ≡ false → alone_in vc (judged_world before port picking connection) ≡ alone_in vc before
    after_other e =
        let ports : List PortState = set before.ports port outside in
        ap (λ (o : Option Connection). alone_of side_is vc before.loaded o ports)
        (with-others before.connections picking.vc vc longer e)
        ∙ places-set vc before port (picked picking) outside had
        ∙ ap (λ (p : ℕ → Place). record (alone_in vc before) { places = p }) (with_at-same (alone_in vc before).places port idle (place_none e))

    effect-judged : StepEffect vc before (Judge port) (Answered (judged_answer before picking connection)) (judged_world before port picking connection)
    effect-judged =
        let alone : Alone = alone_in vc before in
        let later : World = judged_world before port picking connection in
        let choice : (b : Bool) → own ≡ b → Goes journal_is (own_where b (judges port) outcome_is) alone (alone_in vc later) = elim [
          | true ↦ λ e. record { fits = ap is_idle (place_own e); outcome = outcome_own e; next = after_own e }
          | false ↦ λ e. after_other e
        ] in
        record {
          shape = refl;
          notes = same-notes (notes_after side_is vc (notes_in vc before) (event_of (Judge port) (Answered (judged_answer before picking connection)))) (notes_in vc later) refl
              (λ other. ap (λ (has : ℕ → Bool). has other) (noted-answered vc before port (picked picking) had));
          own = goes-by journal_is (own_where (has_own_in side_is vc (slice_get before.ports port)) (judges port) outcome_is)
              (own_where own (judges port) outcome_is) alone (alone_in vc later) (alone_in vc later)
              (ap (λ b. own_where b (judges port) outcome_is) own_here) refl (choice own refl);
          counts = λ line. one-more before.verdicts connection.line verdict_is line;
        }

-- A Judge that succeeds.
pub effect-judges : (vc : Vc) (before : World) → ((line : ℕ) → length (before.verdicts line) < 2 ^ 62) → (port : ℕ) (reply : Reply) (after : World)
    → refusal before (Judge port) ≡ None → Judges before port reply after → StepEffect vc before (Judge port) reply after
effect-judges vc before less port reply after allowed w =
    let none : picking_refusal before w.picking (connection_in before.connections w.picking.vc) ≡ None =
    unmapped Answered (picking_refusal before w.picking (connection_in before.connections w.picking.vc))
    (subst (λ (o : Option PortState). judge_refusal before o ≡ None) w.had allowed) in
    effect-at vc before (Judge port) reply (Answered (judged_answer before w.picking w.connection)) after
    (judged_world before port w.picking w.connection) w.answer w.world
    (effect-judged vc before less port w.picking w.had w.connection w.found none)

-- NotNow changes no port.
effect-not_now : (vc : Vc) (before : World) (step : Step) (refused : Reply) → Some NotNow ≡ Some refused → StepEffect vc before step refused before
effect-not_now vc before step refused e =
    subst (λ (r : Reply). StepEffect vc before step r before) (same_Some NotNow refused e) (record {
      shape = refl;
      notes = refl;
      own = refl;
      counts = λ line. no-more (before.verdicts line);
    })

pub effect-judge_refused : (vc : Vc) (before : World) → ((line : ℕ) → length (before.verdicts line) < 2 ^ 62) → (port : ℕ) (refused : Reply)
    → (o : Option PortState) → slice_get before.ports port ≡ o → judge_refusal before o ≡ Some refused
    → StepEffect vc before (Judge port) refused (left_by_judge before port o)
effect-judge_refused vc before less port refused None at e = effect-not_now vc before (Judge port) refused e
effect-judge_refused vc before less port refused (Some outside) at e = effect-not_now vc before (Judge port) refused e
effect-judge_refused vc before less port refused (Some (entered cell moment)) at e = effect-not_now vc before (Judge port) refused e
effect-judge_refused vc before less port refused (Some (picked picking)) at e =
    let answer = mapped Answered (picking_refusal before picking (connection_in before.connections picking.vc)) refused e in
    subst (λ (r : Reply). StepEffect vc before (Judge port) r (with_port before port outside)) (sym answer.2)
    (effect-unjudged vc before less port picking at answer.0 answer.1)

-- A Pick that finds no connection.

pub no-connection : (o : Option Connection) (refused : Reply) → cond (is_none o) (Some (Answered cell_answers.NoConnection)) None ≡ Some refused
    → (o ≡ None) × (refused ≡ Answered cell_answers.NoConnection)
no-connection None refused e = (refl, sym (same_Some (Answered cell_answers.NoConnection) refused e))
no-connection (Some connection) refused e = absurd (cc)

effect-unknown : (vc : Vc) (before : World) (port : ℕ) (cell : List ℕ) (moment : ℕ) → slice_get before.ports port ≡ Some (entered cell moment)
    → connection_in before.connections (vc_of before.shape.side cell) ≡ None
    → StepEffect vc before (Pick port) (Answered cell_answers.NoConnection) (with_port before port outside)
effect-unknown vc before port cell moment had none =
    let side : Side = before.shape.side in
    let alone : Alone = alone_in vc before in
    let own : Bool = is_same_vc vc (vc_of side cell) in
    let later : World = with_port before port outside in
    let outcome : Outcome = was_not_judged cell_answers.NoConnection in
    let next : Alone = record alone { places = with_at alone.places port idle } in
    let own_here : has_own_in side vc (slice_get before.ports port) ≡ own = ap (has_own_in side vc) had in
    let at : alone.places port ≡ cond own (came cell moment) idle = ap (place_of side vc before.loaded (connection_in before.connections vc)) had in
    let choice : (b : Bool) → own ≡ b → Goes before.shape.journal (own_where b (looks_up port) outcome) alone next = elim [
      | true ↦ λ e.
          let own_connection : alone.connection ≡ None =
          ap (option_map (own_connection_of before.loaded)) (found-same before.connections vc (vc_of side cell) None e none) in
          record {
            fits = ap is_idle (at ∙ ap (λ b. cond b (came cell moment) idle) e);
            outcome = sym (ap found_alone own_connection);
            next = (idle, subst (λ (c : Option OwnConnection). LooksUp c (alone.places port) idle) (sym own_connection) refl, refl);
          }
      | false ↦ λ e.
          ap (λ (p : ℕ → Place). record alone { places = p })
          (with_at-same alone.places port idle (at ∙ ap (λ b. cond b (came cell moment) idle) e))
    ] in
    record {
      shape = refl;
      notes = same-notes (notes_after side vc (notes_in vc before) (event_of (Pick port) (Answered cell_answers.NoConnection))) (notes_in vc later) refl
          (λ other. ap (λ (has : ℕ → Bool). has other) (noted-answered vc before port (entered cell moment) had));
      own = goes-by before.shape.journal (own_where (has_own_in side vc (slice_get before.ports port)) (looks_up port) outcome)
          (own_where own (looks_up port) outcome) alone next (alone_in vc later)
          (ap (λ b. own_where b (looks_up port) outcome) own_here)
          (places-set vc before port (entered cell moment) outside had) (choice own refl);
      counts = λ line. no-more (before.verdicts line);
    }

pub effect-pick_refused : (vc : Vc) (before : World) (port : ℕ) (refused : Reply) → (o : Option PortState) → slice_get before.ports port ≡ o
    → pick_refusal before o ≡ Some refused → StepEffect vc before (Pick port) refused (left_by_pick before port o)
effect-pick_refused vc before port refused None at e = effect-not_now vc before (Pick port) refused e
effect-pick_refused vc before port refused (Some outside) at e = effect-not_now vc before (Pick port) refused e
effect-pick_refused vc before port refused (Some (entered cell moment)) at e =
    let none = no-connection (connection_in before.connections (vc_of before.shape.side cell)) refused e in
    subst (λ (r : Reply). StepEffect vc before (Pick port) r (with_port before port outside)) (sym none.1)
    (effect-unknown vc before port cell moment at none.0)
effect-pick_refused vc before port refused (Some (picked picking)) at e = effect-not_now vc before (Pick port) refused e
