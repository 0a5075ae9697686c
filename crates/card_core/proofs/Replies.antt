-- Each step has a reply that reports no allocation failure.
use Rattle.std.proofs.Common.{◌≡◌, ◌⊎◌, ℕ, zero, suc, ◌+◌, ◌^◌, ◌<◌, ◌≤◌, ◌==◌, Bool, true, false, not, List, [], ◌∷◌, length, take, Option, Some, None, is_none, is_some, slice_get, MatchOption, refl, sym, ap, ◌∙◌, subst, inl, inr, arith}
use Rattle.std.proofs.lemmas.Bool.{or_cases, not-false}
use Rattle.std.proofs.lemmas.List.{take-append-drop}
use Rattle.std.proofs.lemmas.List.Elements.{All-take}
use Rattle.upc_cell.specs.declared.vc.Vc.{Vc}
use Rattle.upc_cell.specs.Connection.{vc_of}
use Rattle.bpf_code.specs.declared.instr.Instr.{Instr}
use Rattle.bpf_verify.specs.Accepted.{IsAccepted}
use Rattle.bpf_interp.proofs.Public.{Value-some}
use Rattle.gen_arena.specs.declared.id.Id.{Id}
use Rattle.leaky.specs.Moments.{GoesOn}
use Rattle.line_record.specs.declared.owner.Owner.{Owner}
use Rattle.line_record.specs.History.{NamedCell, moments_of, empty_buckets, judged}
use Rattle.line_record.specs.Piece.{PieceView}
use Rattle.line_record.specs.declared.tally.Tally.{Tally}
use Rattle.line_record.specs.JournalRun.{tallied}
use Rattle.line_record.specs.Tally.{tally_of}
use Rattle.line_record.proofs.Public.{histories_have_states, cells_are_judged_in_turn}
use Rattle.card_core.specs.declared.ask.Ask.{Ask}
use Rattle.card_core.specs.declared.reply.Reply.{Reply}
use Rattle.card_core.specs.declared.reply.Reply.TheVariants.{Entered, Picked, Answered, Loaded, Retired, SetUp, Reloaded, Released, Cut as CutOff}
use Rattle.card_core.specs.declared.step.Step.{Step}
use Rattle.card_core.specs.declared.step.Step.TheVariants.{Enter, Pick, Judge, Load, Retire, Setup, Reload, Release, Cut}
use Rattle.card_core.specs.World.{World, Connection, PortState, outside, entered, picked, code_in, without_code, times_given, returned_cells, kept_cells, connection_in, without_connection, with_connection, with_port, is_busy, any_below, is_open_slot, is_open_line}
use Rattle.card_core.specs.Refusals.{refusal, pick_refusal, judge_refusal, picking_refusal, load_fault, retire_fault, setup_fault, reload_fault, missing_fault}
use Rattle.card_core.specs.Steps.{IsPieceOf, Succeeds, FindsNoMemory, IsRefused, WorldStep, left_by, picking_of, judged_answer, judged_world, new_connection}
use Rattle.card_core.specs.Laws.{is_of_memory, LoadsAccepted, StepsHaveReplies}
use Rattle.card_core.proofs.Sound.{WorldInvariant, SoundConnection}
use Rattle.card_core.proofs.JudgeLemmas.{tallied-append}
use Rattle.card_core.proofs.LookUps.{passed_on, unmapped, is_there, there_is}
use Rattle.card_core.proofs.SoundSteps.{reached-sound}
use Rattle.card_core.proofs.Spares.{refused-spares}

-- A step that isn't refused can succeed.

abbrev CanSucceed : World → Step → Type 0
CanSucceed before step = (reply : Reply) × (after : World) × Succeeds before step reply after × (is_of_memory reply ≡ false)

below-some : (number : ℕ) (test : ℕ → Bool) → any_below number test ≡ true → (found : ℕ) × (found < number) × (test found ≡ true)
below-some zero test e = absurd (cc)
below-some (suc number) test e = elim (or_cases (test number) (any_below number test) e) [
  | inl here ↦ (number, omega arith, here)
  | inr later ↦ let rest = below-some number test later in (rest.0, omega (arith, rest.1), rest.2)
]

front-goes_on : (earliest number : ℕ) (cells : List NamedCell) → GoesOn earliest (moments_of cells)
    → GoesOn earliest (moments_of (take number cells))
front-goes_on earliest zero cells goes = tt
front-goes_on earliest (suc number) [] goes = tt
front-goes_on earliest (suc number) (cell ∷ later) goes = (goes.0, front-goes_on cell.moment number later goes.1)

-- Each connection has a piece.
piece-of : (world : World) (vc : Vc) (connection : Connection) → SoundConnection world connection
    → (piece : PieceView) × IsPieceOf world vc connection piece
piece-of world vc connection sound =
    let before = histories_have_states connection.contracts (returned_cells connection)
    (tallied sound.opening (judged connection.contracts empty_buckets [] (returned_cells connection)))
    (front-goes_on 0 connection.returned connection.history sound.history)
    (All-take (λ (cell : NamedCell). cell.moment ≤ 2 ^ 62) connection.returned connection.history sound.early) in
    let after = histories_have_states connection.contracts connection.history (tally_of (world.verdicts connection.line))
    sound.history sound.early in
    let owner : Owner = record { vc = vc; incarnation = connection.incarnation } in
    let piece : PieceView = record {
      owner = owner;
      contracts = connection.contracts;
      start = before.0;
      entries = judged connection.contracts empty_buckets (returned_cells connection) (kept_cells connection);
      end = after.0;
    } in (
      piece,
      record {
        owner = refl;
        contracts = refl;
        entries = refl;
        start = before.2;
        end = after.2;
        counts = after.1;
        together = ap (λ (counts : Tally). tallied counts (judged connection.contracts empty_buckets (returned_cells connection) (kept_cells connection))) before.1
            ∙ sym (tallied-append sound.opening (judged connection.contracts empty_buckets [] (returned_cells connection))
            (judged connection.contracts empty_buckets (returned_cells connection) (kept_cells connection)))
            ∙ ap (tallied sound.opening) (sym (cells_are_judged_in_turn connection.contracts empty_buckets [] (returned_cells connection) (kept_cells connection)))
            ∙ ap (λ (cells : List NamedCell). tallied sound.opening (judged connection.contracts empty_buckets [] cells)) (take-append-drop connection.returned connection.history)
            ∙ sound.counted;
      },
    )

can-enter : (before : World) (port : ℕ) (cell : List ℕ) (moment : ℕ) → CanSucceed before (Enter port cell moment)
can-enter before port cell moment =
    (Entered, with_port before port (entered cell moment), record { answer = refl; world = refl }, refl)

can-pick : (before : World) (port : ℕ) → WorldInvariant before → (o : Option PortState) → slice_get before.ports port ≡ o
    → pick_refusal before o ≡ None → CanSucceed before (Pick port)
can-pick before port sound None had e = absurd (cc)
can-pick before port sound (Some outside) had e = absurd (cc)
can-pick before port sound (Some (entered cell moment)) had e =
    let vc : Vc = vc_of before.shape.side cell in
    let one = passed_on (is_none (connection_in before.connections vc)) _ _ e in
    let found = is_there (connection_in before.connections vc) one.0 in
    let connection : Connection = found.0 in
    let live = there_is (code_in before.live connection.program) (sound.connections.each vc connection found.1).named_live in
    let given = sound.programs.live_given connection.program live.0 live.1 in
    let gives = Value-some live.0 cell (sound.programs.accepted connection.program live.0 given) in (
      Picked,
      with_port before port (picked (picking_of cell moment vc connection gives.0)),
      record {
        cell = cell;
        moment = moment;
        had = had;
        connection = connection;
        found = found.1;
        code = live.0;
        named = given;
        value = gives.0;
        gives = (gives.1, gives.2, gives.3);
        answer = refl;
        world = refl;
      },
      refl,
    )
can-pick before port sound (Some (picked picking)) had e = absurd (cc)

can-judge : (before : World) (port : ℕ) (o : Option PortState) → slice_get before.ports port ≡ o
    → judge_refusal before o ≡ None → CanSucceed before (Judge port)
can-judge before port None had e = absurd (cc)
can-judge before port (Some outside) had e = absurd (cc)
can-judge before port (Some (entered cell moment)) had e = absurd (cc)
can-judge before port (Some (picked picking)) had e =
    let passed = unmapped Answered (picking_refusal before picking (connection_in before.connections picking.vc)) e in
    let choice : (c : Option Connection) → connection_in before.connections picking.vc ≡ c → picking_refusal before picking c ≡ None
    → CanSucceed before (Judge port) = elim [
      | None ↦ λ found e. absurd (cc)
      | Some connection ↦ λ found e. (
        Answered (judged_answer before picking connection),
        judged_world before port picking connection,
        record {
          picking = picking;
          had = had;
          connection = connection;
          found = found;
          answer = refl;
          world = refl;
        },
        refl,
      )
    ] in
    choice (connection_in before.connections picking.vc) refl passed

can-load : (before : World) (code : List Instr) → IsAccepted code → load_fault before ≡ None → CanSucceed before (Load code)
can-load before code accepted e =
    let one = passed_on (is_busy before) _ _ e in
    let two = passed_on (not (any_below before.shape.programs (is_open_slot before))) _ _ one.1 in
    let found = below-some before.shape.programs (is_open_slot before)
    (not-false (any_below before.shape.programs (is_open_slot before)) two.0) in
    let id : Id = record { slot = found.0; generation = times_given before.loaded found.0 + 1 } in (
      Loaded id,
      record before {
        loaded = record { id = id; code = code } ∷ before.loaded;
        live = record { id = id; code = code } ∷ before.live;
      },
      record {
        accepted = accepted;
        slot = found.0;
        within = found.1;
        open_slot = found.2;
        id = id;
        here = refl;
        next = refl;
        answer = refl;
        world = refl;
      },
      refl,
    )

can-retire : (before : World) (id : Id) → retire_fault before id ≡ None → CanSucceed before (Retire id)
can-retire before id e =
    let one = passed_on (is_busy before) _ _ e in
    let two = passed_on (is_none (code_in before.live id)) _ _ one.1 in
    let code = is_there (code_in before.live id) two.0 in (
      Retired code.0,
      record before { live = without_code before.live id },
      record { code = code.0; was = code.1; answer = refl; world = refl },
      refl,
    )

can-set_up : (before : World) (ask : Ask) → setup_fault before ask ≡ None → CanSucceed before (Setup ask)
can-set_up before ask e =
    let one = passed_on (is_none (code_in before.live ask.program)) _ _ e in
    let two = passed_on (is_some (connection_in before.connections ask.vc)) _ _ one.1 in
    let three = passed_on (length ask.contracts.items == 0) _ _ two.1 in
    let four = passed_on (not (any_below before.shape.lines (is_open_line before))) _ _ three.1 in
    let found = below-some before.shape.lines (is_open_line before)
    (not-false (any_below before.shape.lines (is_open_line before)) four.0) in (
      SetUp (record { vc = ask.vc; incarnation = before.incarnations + 1 }),
      record before {
        connections = with_connection before.connections ask.vc (new_connection ask found.0 (before.incarnations + 1));
        incarnations = before.incarnations + 1;
      },
      record { line = found.0; within = found.1; open_line = found.2; answer = refl; world = refl },
      refl,
    )

can-reload : (before : World) (vc : Vc) (program : Id) → reload_fault before vc program ≡ None → CanSucceed before (Reload vc program)
can-reload before vc program e =
    let one = passed_on (is_none (code_in before.live program)) _ _ e in
    let two = passed_on (is_none (connection_in before.connections vc)) _ _ one.1 in
    let found = is_there (connection_in before.connections vc) two.0 in
    let connection : Connection = found.0 in (
      Reloaded connection.program,
      record before {
        connections = with_connection before.connections vc (record connection { program = program });
      },
      record { connection = connection; found = found.1; answer = refl; world = refl },
      refl,
    )

can-release : (before : World) (vc : Vc) → WorldInvariant before → missing_fault before vc ≡ None → CanSucceed before (Release vc)
can-release before vc sound e =
    let one = passed_on (is_none (connection_in before.connections vc)) _ _ e in
    let found = is_there (connection_in before.connections vc) one.0 in
    let piece = piece-of before vc found.0 (sound.connections.each vc found.0 found.1) in (
      Released piece.0,
      record before { connections = without_connection before.connections vc },
      record { connection = found.0; found = found.1; piece = piece.0; last = piece.1; answer = refl; world = refl },
      refl,
    )

can-cut : (before : World) (vc : Vc) → WorldInvariant before → missing_fault before vc ≡ None → CanSucceed before (Cut vc)
can-cut before vc sound e =
    let one = passed_on (is_none (connection_in before.connections vc)) _ _ e in
    let found = is_there (connection_in before.connections vc) one.0 in
    let connection : Connection = found.0 in
    let piece = piece-of before vc connection (sound.connections.each vc connection found.1) in (
      CutOff piece.0,
      record before {
        connections = with_connection before.connections vc (record connection { returned = length connection.history });
      },
      record { connection = connection; found = found.1; piece = piece.0; next = piece.1; answer = refl; world = refl },
      refl,
    )

can-succeed : (before : World) (step : Step) → WorldInvariant before → LoadsAccepted step → refusal before step ≡ None → CanSucceed before step
can-succeed before (Enter port cell moment) sound accepted e = can-enter before port cell moment
can-succeed before (Pick port) sound accepted e = can-pick before port sound (slice_get before.ports port) refl e
can-succeed before (Judge port) sound accepted e = can-judge before port (slice_get before.ports port) refl e
can-succeed before (Load code) sound accepted e = can-load before code accepted (unmapped _ (load_fault before) e)
can-succeed before (Retire id) sound accepted e = can-retire before id (unmapped _ (retire_fault before id) e)
can-succeed before (Setup ask) sound accepted e = can-set_up before ask (unmapped _ (setup_fault before ask) e)
can-succeed before (Reload vc program) sound accepted e = can-reload before vc program (unmapped _ (reload_fault before vc program) e)
can-succeed before (Release vc) sound accepted e = can-release before vc sound (unmapped _ (missing_fault before vc) e)
can-succeed before (Cut vc) sound accepted e = can-cut before vc sound (unmapped _ (missing_fault before vc) e)

-- A step from its refusal.
step-with : (before : World) (step : Step) (reply : Reply) (after : World) (o : Option Reply) → refusal before step ≡ o
    → MatchOption o (Succeeds before step reply after ⊎ FindsNoMemory before step reply after)
    (λ refused. IsRefused before step refused reply after)
    → WorldStep before step reply after
step-with before step reply after o e done =
    subst (λ (r : Option Reply). MatchOption r (Succeeds before step reply after ⊎ FindsNoMemory before step reply after)
    (λ refused. IsRefused before step refused reply after)) (sym e) done

sound-replied : (world : World) (step : Step) → WorldInvariant world → LoadsAccepted step
    → (reply : Reply) × (after : World) × WorldStep world step reply after × (is_of_memory reply ≡ false)
sound-replied world step sound accepted =
    let choice : (o : Option Reply) → refusal world step ≡ o
    → (reply : Reply) × (after : World) × WorldStep world step reply after × (is_of_memory reply ≡ false) = elim [
      | None ↦ λ e.
          let done = can-succeed world step sound accepted e in
          (done.0, done.1, step-with world step done.0 done.1 None e (inl done.2), done.3)
      | Some refused ↦ λ e. (
        refused,
        left_by world step,
        step-with world step refused (left_by world step) (Some refused) e (record { answer = refl; world = refl }),
        (refused-spares world step refused e).0,
      )
    ] in
    choice (refusal world step) refl

pub steps-replied : StepsHaveReplies
steps-replied shape log world leads step accepted = sound-replied world step (reached-sound shape log world leads) accepted
