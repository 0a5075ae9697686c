-- Each step preserves the invariant of worlds.
use Rattle.std.proofs.Common.{◌≡◌, ◌≢◌, ℕ, suc, ◌+◌, ◌^◌, ◌≤◌, true, List, [], ◌∷◌, ◌++◌, length, length-set, length-append, set, Option, Some, None, slice_get, is_none, is_some, refl, sym, ap, ◌∙◌, subst, inl, inr, arith}
use Rattle.std.proofs.lemmas.List.Elements.{All-nil, All-push}
use Rattle.upc_cell.specs.declared.vc.Vc.{Vc}
use Rattle.upc_cell.specs.Connection.{vc_of}
use Rattle.bpf_code.specs.declared.instr.Instr.{Instr}
use Rattle.bpf_verify.specs.Accepted.{IsAccepted}
use Rattle.gen_arena.specs.declared.id.Id.{Id}
use Rattle.gen_arena.specs.SameId.{is_same_id}
use Rattle.gen_arena.proofs.Public.{id_itself, id_differs}
use Rattle.leaky.specs.declared.verdict.Verdict.{Verdict}
use Rattle.leaky.specs.Moments.{GoesOn}
use Rattle.line_record.specs.declared.entry.Entry.{Entry}
use Rattle.line_record.specs.History.{NamedCell, moments_of, last_moment, empty_buckets, entry_of, judged}
use Rattle.line_record.specs.JournalRun.{tallied}
use Rattle.line_record.specs.Tally.{tally_of}
use Rattle.line_record.proofs.Public.{cells_are_judged_in_turn}
use Rattle.card_core.specs.declared.ask.Ask.{Ask}
use Rattle.card_core.specs.declared.reply.Reply.{Reply}
use Rattle.card_core.specs.declared.step.Step.{Step}
use Rattle.card_core.specs.declared.step.Step.TheVariants.{Enter, Pick, Judge, Load, Retire, Setup, Reload, Release, Cut}
use Rattle.card_core.specs.World.{World, Loading, Connection, Picking, PortState, outside, entered, picked, code_in, without_code, times_given, connection_in, without_connection, with_connection, opening_world, with_verdict}
use Rattle.card_core.specs.Refusals.{refusal, reload_fault}
use Rattle.card_core.specs.Steps.{Enters, Picks, Judges, Loads, Retires, SetsUp, Reloads, Releases, Cuts, Succeeds, WorldStep, left_by, left_by_pick, left_by_judge, picking_of, cell_of_picking, with_cell, verdict_on, new_connection}
use Rattle.card_core.specs.Log.{Event, Run}
use Rattle.card_core.proofs.Sound.{SoundPrograms, SoundConnection, SoundPicking, WorldInvariant, ReachedWorldsAreSound}
use Rattle.card_core.proofs.LookUps.{same_some, passed_on, unmapped, is_there, IsSome-of}
use Rattle.card_core.proofs.ConnectionLemmas.{changes-with, changes-without, connection_passes, once-with, once-without}
use Rattle.card_core.proofs.CodeLemmas.{code-first, code-later, code-cases, without_code-was, without_code-others, times-same, times-grow}
use Rattle.card_core.proofs.JudgeLemmas.{with_verdict-here, with_verdict-other, tallied-more}
use Rattle.card_core.proofs.SoundChanges.{opening-sound, picked_same, picks-set, sound-port, IsNewOrKept, changed, sound-changed, sound-rewritten, some-more, sound-programs}
use Rattle.card_core.proofs.Allowed.{succeeded, starved, rejected, step-case, picking-allowed, setup-allowed, line-held, none_picked, retire-allowed}

-- The steps of a port preserve it.

sound-enters : (before : World) (port : ℕ) (cell : List ℕ) (moment : ℕ) (reply : Reply) (after : World) → WorldInvariant before
    → Enters before port cell moment reply after → WorldInvariant after
sound-enters before port cell moment reply after sound w =
    subst WorldInvariant (sym w.world) (sound-port before port (entered cell moment) sound
    (λ picking e. absurd (cc)))

sound-picks : (before : World) (port : ℕ) (reply : Reply) (after : World) → WorldInvariant before
    → Picks before port reply after → WorldInvariant after
sound-picks before port reply after sound w =
    let vc : Vc = vc_of before.shape.side w.cell in
    let new : Picking = picking_of w.cell w.moment vc w.connection w.value in
    let s = sound.connections.each vc w.connection w.found in
    let one : SoundPicking before new = record {
      own = refl;
      live = s.named_live;
      old = s.old;
      same_line = λ connection found same.
          ap (λ (c : Connection). c.line) (same_some connection w.connection (sym found ∙ w.found));
    } in
    subst WorldInvariant (sym w.world) (sound-port before port (picked new) sound
    (λ picking e. subst (λ (p : Picking). SoundPicking before p) (picked_same new picking e) one))

pub history-more : (earliest : ℕ) (history : List NamedCell) (cell : NamedCell) → GoesOn earliest (moments_of history)
    → last_moment earliest history ≤ cell.moment → GoesOn earliest (moments_of (history ++ cell ∷ []))
history-more earliest [] cell goes last = (last, tt)
history-more earliest (first ∷ later) cell goes last = (goes.0, history-more first.moment later cell goes.1 last)

-- The entries of a connection's whole history.
abbrev judged_so : Connection → List Entry
judged_so connection = judged connection.contracts empty_buckets [] connection.history

sound-judges : (before : World) (port : ℕ) (reply : Reply) (after : World) → WorldInvariant before
    → refusal before (Judge port) ≡ None → Judges before port reply after → WorldInvariant after
sound-judges before port reply after sound allowed w =
    let connection : Connection = w.connection in
    let cell : NamedCell = cell_of_picking w.picking in
    let new : Connection = with_cell connection cell in
    let may = picking-allowed before port w.picking connection w.had w.found allowed in
    let s = sound.connections.each w.picking.vc connection w.found in
    let verdicts : ℕ → List Verdict = with_verdict before.verdicts connection.line (verdict_on connection cell) in
    let connections : List (Vc × Connection) = with_connection before.connections w.picking.vc new in
    let ports : List PortState = set before.ports port outside in
    let longer : length new.history ≡ length connection.history + 1 = length-append connection.history (cell ∷ []) in
    let one : SoundConnection (changed before connections before.incarnations verdicts ports) new = record {
      within = s.within;
      first = s.first;
      old = s.old;
      named_live = s.named_live;
      some = s.some;
      history = history-more 0 connection.history cell s.history may.1.forward;
      early = All-push (λ (c : NamedCell). c.moment ≤ 2 ^ 62) connection.history cell s.early may.1.early;
      returned = omega (arith, longer, s.returned);
      opening = s.opening;
      counted = ap (tallied s.opening) (cells_are_judged_in_turn connection.contracts empty_buckets [] connection.history (cell ∷ []))
          ∙ tallied-more s.opening (judged_so connection) (before.verdicts connection.line)
          (entry_of cell (verdict_on connection cell)) (verdict_on connection cell) refl s.counted
          ∙ ap tally_of (sym (with_verdict-here before.verdicts connection.line (verdict_on connection cell)));
    } in
    subst WorldInvariant (sym w.world) (sound-changed before connections before.incarnations verdicts ports w.picking.vc (Some new) sound (record {
      changes = changes-with before.connections w.picking.vc new;
      once = once-with before.connections w.picking.vc new sound.connections.once;
      grows = omega arith;
      most = sound.incarnations;
      verdicts = λ other another apart found.
          with_verdict-other before.verdicts connection.line (verdict_on connection cell) another.line
          (λ same. apart (sound.connections.lines_apart other w.picking.vc another connection found w.found same));
      sized = length-set before.ports port outside ∙ sound.sized;
      picks = picks-set before port outside sound (λ picking e. absurd (cc));
      sound = λ found e. subst (λ (c : Connection). SoundConnection (changed before connections before.incarnations verdicts ports) c) (same_some new found e) one;
      kept = λ found e. subst (λ (c : Connection). IsNewOrKept before w.picking.vc c) (same_some new found e)
          (inr (connection, w.found, refl, refl));
    }))

-- The steps of the desk preserve it.

-- Another program, or more returned cells, leave the invariant intact.
sound-reloads : (before : World) (vc : Vc) (program : Id) (reply : Reply) (after : World) → WorldInvariant before
    → refusal before (Reload vc program) ≡ None → Reloads before vc program reply after → WorldInvariant after
sound-reloads before vc program reply after sound allowed w =
    let connection : Connection = w.connection in
    let new : Connection = record connection { program = program } in
    let s = sound.connections.each vc connection w.found in
    let live = passed_on (is_none (code_in before.live program)) _ _ (unmapped _ (reload_fault before vc program) allowed) in
    let code = is_there (code_in before.live program) live.0 in
    subst WorldInvariant (sym w.world) (sound-rewritten before vc connection new sound w.found refl refl (record {
      within = s.within;
      first = s.first;
      old = s.old;
      named_live = IsSome-of (code_in before.live program) code.0 code.1;
      some = s.some;
      history = s.history;
      early = s.early;
      returned = s.returned;
      opening = s.opening;
      counted = s.counted;
    }))

sound-cuts : (before : World) (vc : Vc) (reply : Reply) (after : World) → WorldInvariant before
    → Cuts before vc reply after → WorldInvariant after
sound-cuts before vc reply after sound w =
    let connection : Connection = w.connection in
    let new : Connection = record connection { returned = length connection.history } in
    let s = sound.connections.each vc connection w.found in
    subst WorldInvariant (sym w.world) (sound-rewritten before vc connection new sound w.found refl refl (record {
      within = s.within;
      first = s.first;
      old = s.old;
      named_live = s.named_live;
      some = s.some;
      history = s.history;
      early = s.early;
      returned = omega arith;
      opening = s.opening;
      counted = s.counted;
    }))

sound-releases : (before : World) (vc : Vc) (reply : Reply) (after : World) → WorldInvariant before
    → Releases before vc reply after → WorldInvariant after
sound-releases before vc reply after sound w =
    let connections : List (Vc × Connection) = without_connection before.connections vc in
    subst WorldInvariant (sym w.world) (sound-changed before connections before.incarnations before.verdicts before.ports vc None sound (record {
      changes = changes-without before.connections vc;
      once = once-without before.connections vc sound.connections.once;
      grows = omega arith;
      most = sound.incarnations;
      verdicts = λ other another apart found. refl;
      sized = sound.sized;
      picks = sound.ports;
      sound = λ found e. absurd (cc);
      kept = λ found e. absurd (cc);
    }))

sound-sets_up : (before : World) (ask : Ask) (reply : Reply) (after : World) → WorldInvariant before
    → refusal before (Setup ask) ≡ None → SetsUp before ask reply after → WorldInvariant after
sound-sets_up before ask reply after sound allowed w =
    let new : Connection = new_connection ask w.line (before.incarnations + 1) in
    let connections : List (Vc × Connection) = with_connection before.connections ask.vc new in
    let may = setup-allowed before ask allowed in
    let one : SoundConnection (changed before connections (before.incarnations + 1) before.verdicts before.ports) new = record {
      within = w.within;
      first = omega arith;
      old = omega arith;
      named_live = may.live;
      some = may.some;
      history = tt;
      early = All-nil (λ (c : NamedCell). c.moment ≤ 2 ^ 62);
      returned = omega arith;
      opening = tally_of (before.verdicts w.line);
      counted = refl;
    } in
    subst WorldInvariant (sym w.world) (sound-changed before connections (before.incarnations + 1) before.verdicts before.ports ask.vc (Some new) sound (record {
      changes = changes-with before.connections ask.vc new;
      once = once-with before.connections ask.vc new sound.connections.once;
      grows = omega arith;
      most = omega (arith, may.used);
      verdicts = λ other another apart found. refl;
      sized = sound.sized;
      picks = sound.ports;
      sound = λ found e. subst (λ (c : Connection). SoundConnection (changed before connections (before.incarnations + 1) before.verdicts before.ports) c) (same_some new found e) one;
      kept = λ found e. subst (λ (c : Connection). IsNewOrKept before ask.vc c) (same_some new found e)
          (inl (omega arith, line-held before w.line w.open_line));
    }))

sound-loads : (before : World) (code : List Instr) (reply : Reply) (after : World) → WorldInvariant before
    → Loads before code reply after → WorldInvariant after
sound-loads before code reply after sound w =
    let loading : Loading = record { id = w.id; code = code } in
    let given : List Loading = loading ∷ before.loaded in
    let live : List Loading = loading ∷ before.live in
    let times : times_given given w.id.slot ≡ suc (times_given before.loaded w.id.slot) =
    times-same loading before.loaded w.id.slot refl in
    let next : w.id.generation ≡ times_given before.loaded w.id.slot + 1 =
    subst (λ slot. w.id.generation ≡ times_given before.loaded slot + 1) (sym w.here) w.next in
    let new : (id : Id) → code_in before.loaded id ≡ Some code → id ≢ w.id = λ id e same.
    let old = sound.programs.once id code e in
    let old_here : w.id.generation ≤ times_given before.loaded w.id.slot =
    subst (λ (i : Id). i.generation ≤ times_given before.loaded i.slot) same old in
    absurd (omega (arith, old_here, next)) in
    let programs : SoundPrograms (record before { loaded = given; live = live }) = record {
      once = λ id found e. elim (code-cases loading before.loaded id found e) [
        | inl here ↦
            subst (λ (i : Id). i.generation ≤ times_given given i.slot) (sym here.0) (omega (arith, times, next))
        | inr there ↦ omega (arith, sound.programs.once id found there.1, times-grow loading before.loaded id.slot)
      ];
      live_given = λ id found e. elim (code-cases loading before.live id found e) [
        | inl here ↦
            let at : is_same_id id w.id ≡ true = subst (λ (i : Id). is_same_id i w.id ≡ true) (sym here.0) (id_itself w.id) in
            code-first loading before.loaded id at ∙ ap Some here.1
        | inr there ↦
            code-later loading before.loaded id (id_differs id w.id there.0) ∙ sound.programs.live_given id found there.1
      ];
      accepted = λ id found e. elim (code-cases loading before.loaded id found e) [
        | inl here ↦ subst IsAccepted here.1 w.accepted
        | inr there ↦ sound.programs.accepted id found there.1
      ];
    } in
    subst WorldInvariant (sym w.world) (sound-programs before given live sound programs
    (λ vc connection e. some-more loading before.live connection.program (sound.connections.each vc connection e).named_live)
    (λ port picking e. some-more loading before.live picking.program (sound.ports port picking e).live))

sound-retires : (before : World) (id : Id) (reply : Reply) (after : World) → WorldInvariant before
    → refusal before (Retire id) ≡ None → Retires before id reply after → WorldInvariant after
sound-retires before id reply after sound allowed w =
    let may = retire-allowed before id allowed in
    let live : List Loading = without_code before.live id in
    let programs : SoundPrograms (record before { loaded = before.loaded; live = live }) = record {
      once = sound.programs.once;
      live_given = λ other code e. sound.programs.live_given other code (without_code-was before.live id other code e).1;
      accepted = sound.programs.accepted;
    } in
    let named : (vc : Vc) (connection : Connection) → connection_in before.connections vc ≡ Some connection
    → connection.program ≢ id = λ vc connection e same.
    let passes = connection_passes (λ here. is_same_id here.1.program id) before.connections vc connection e
    (λ v. subst (λ (i : Id). is_same_id connection.program i ≡ true) same (id_itself connection.program)) in
    let unnamed = may.unnamed in
    absurd (cc) in
    subst WorldInvariant (sym w.world) (sound-programs before before.loaded live sound programs
    (λ vc connection e.
    ap is_some (without_code-others before.live id connection.program (named vc connection e))
    ∙ (sound.connections.each vc connection e).named_live)
    (λ port picking e. absurd (none_picked before.ports may.idle port picking e)))

-- Every step with every reply preserves it.

sound-left_by_pick : (before : World) (port : ℕ) (o : Option PortState) → WorldInvariant before → WorldInvariant (left_by_pick before port o)
sound-left_by_pick before port (Some (entered cell moment)) sound = sound-port before port outside sound (λ picking e. absurd (cc))
sound-left_by_pick before port _ sound = sound

sound-left_by_judge : (before : World) (port : ℕ) (o : Option PortState) → WorldInvariant before → WorldInvariant (left_by_judge before port o)
sound-left_by_judge before port (Some (picked picking)) sound = sound-port before port outside sound (λ picking e. absurd (cc))
sound-left_by_judge before port _ sound = sound

sound-left : (before : World) (step : Step) → WorldInvariant before → WorldInvariant (left_by before step)
sound-left before (Pick port) sound = sound-left_by_pick before port (slice_get before.ports port) sound
sound-left before (Judge port) sound = sound-left_by_judge before port (slice_get before.ports port) sound
sound-left before _ sound = sound

sound-success : (before : World) (step : Step) (reply : Reply) (after : World) → WorldInvariant before
    → refusal before step ≡ None → Succeeds before step reply after → WorldInvariant after
sound-success before (Enter port cell moment) reply after sound allowed w = sound-enters before port cell moment reply after sound w
sound-success before (Pick port) reply after sound allowed w = sound-picks before port reply after sound w
sound-success before (Judge port) reply after sound allowed w = sound-judges before port reply after sound allowed w
sound-success before (Load code) reply after sound allowed w = sound-loads before code reply after sound w
sound-success before (Retire id) reply after sound allowed w = sound-retires before id reply after sound allowed w
sound-success before (Setup ask) reply after sound allowed w = sound-sets_up before ask reply after sound allowed w
sound-success before (Reload vc program) reply after sound allowed w = sound-reloads before vc program reply after sound allowed w
sound-success before (Release vc) reply after sound allowed w = sound-releases before vc reply after sound w
sound-success before (Cut vc) reply after sound allowed w = sound-cuts before vc reply after sound w

pub sound-step : (before : World) (step : Step) (reply : Reply) (after : World) → WorldInvariant before
    → WorldStep before step reply after → WorldInvariant after
sound-step before step reply after sound w = elim (step-case before step reply after w) [
  | succeeded allowed success ↦ sound-success before step reply after sound allowed success
  | starved memory ↦ subst WorldInvariant (sym memory.world) sound
  | rejected refused e refusing ↦ subst WorldInvariant (sym refusing.world) (sound-left before step sound)
]

pub sound-run : (before : World) (log : List Event) (after : World) → WorldInvariant before → Run before log after → WorldInvariant after
sound-run before [] after sound run = subst WorldInvariant (sym run) sound
sound-run before (event ∷ later) after sound run =
    sound-run run.0 later after (sound-step before event.step event.reply run.0 sound run.1) run.2

pub reached-sound : ReachedWorldsAreSound
reached-sound shape log world leads = sound-run (opening_world shape) log world (opening-sound shape) leads
