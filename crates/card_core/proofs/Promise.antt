-- The headline: the promise for each judged cell.
use Rattle.std.proofs.Common.{◌≡◌, ℕ, true, List, [], ◌∷◌, ◌++◌, Some, None, slice_get, append_assoc, refl, sym, ap, ◌∙◌, subst}
use Rattle.std.proofs.lemmas.Bool.{eq-eqb}
use Rattle.upc_cell.specs.declared.vc.Vc.{Vc}
use Rattle.upc_cell.specs.Connection.{vc_of}
use Rattle.bpf_code.specs.declared.instr.Instr.{Instr}
use Rattle.gen_arena.specs.declared.id.Id.{Id}
use Rattle.gen_arena.proofs.Public.{id_itself}
use Rattle.leaky.specs.declared.contract.Contract.{Contract}
use Rattle.line_record.specs.History.{empty_buckets, verdict_after}
use Rattle.card_core.specs.declared.reply.Reply.{Reply}
use Rattle.card_core.specs.declared.shape.Shape.{Shape}
use Rattle.card_core.specs.declared.step.Step.TheVariants.{Judge}
use Rattle.card_core.specs.World.{World, Connection, Picking, picked, code_in, connection_in, opening_world}
use Rattle.card_core.specs.Refusals.{refusal}
use Rattle.card_core.specs.Steps.{Judges, WorldStep, cell_of_picking, verdict_on, number_with}
use Rattle.card_core.specs.Log.{Event, Run}
use Rattle.card_core.specs.Judged.{JudgedView}
use Rattle.card_core.specs.Headline.{Never, moves, changes, loads, retires, program_after, cells_judged_on, judged_in_reply, picking, judging, setting_up, loading, HasEntered, IsLoadedOnce, IsLiveCode, IsLiveThrough, IsPromised, EachJudgedCellIsPromised, TheHeadline}
use Rattle.card_core.proofs.Sound.{WorldInvariant}
use Rattle.card_core.proofs.LookUps.{same_some, there_is}
use Rattle.card_core.proofs.Allowed.{IsAllowed, succeeded, starved, rejected, step-case, picking-allowed}
use Rattle.card_core.proofs.SoundSteps.{history-more, reached-sound}
use Rattle.card_core.proofs.EffectsOfCells.{judgement_on}
use Rattle.card_core.proofs.EffectsOfRefusals.{CellRefused, at_no_time, with_answer, judge-refused}
use Rattle.card_core.proofs.LogLemmas.{first-cut, one-cut, never-joined, never-before, never-after}
use Rattle.card_core.proofs.Knows.{Knows, KnowsPick, leads-knows}
use Rattle.card_core.proofs.Returning.{returns-safely}

-- A run along two logs passes through a world between them.

pub run-parts : (before : World) (log further : List Event) (after : World) → Run before (log ++ further) after
    → (world : World) × Run before log world × Run world further after
run-parts before [] further after run = (before, refl, run)
run-parts before (event ∷ log) further after run =
    let rest = run-parts run.0 log further after run.2 in
    (rest.0, (run.0, run.1, rest.1), rest.2)

-- A code that is live after the log and after all further events is live after each of them.
live-through : (log further : List Event) (id : Id) (code : List Instr) → IsLoadedOnce log id code
    → IsLiveCode (log ++ further) id code → IsLiveThrough log further id code
live-through log further id code at_first at_last so_far rest parts =
    let loaded : loads id (loading code id) ≡ true = id_itself id in
    let whole : at_last.loaded.earlier ++ loading code id ∷ at_last.loaded.later
    ≡ at_first.earlier ++ loading code id ∷ (at_first.later ++ further) =
    sym at_last.loaded.cut ∙ ap (λ (l : List Event). l ++ further) at_first.cut
    ∙ append_assoc at_first.earlier (loading code id ∷ at_first.later) further in
    let cut = first-cut (loads id) at_last.loaded.earlier at_first.earlier (loading code id) (loading code id)
    at_last.loaded.later (at_first.later ++ further) loaded loaded at_last.loaded.first at_first.first whole in
    let none : Never (loads id) (at_first.later ++ (so_far ++ rest)) =
    subst (λ (l : List Event). Never (loads id) (at_first.later ++ l)) parts
    (subst (λ (l : List Event). Never (loads id) l) cut.ends at_last.loaded.last) in
    let all : Never (retires id) ((log ++ so_far) ++ rest) =
    subst (λ (l : List Event). Never (retires id) l)
    (ap (λ (l : List Event). log ++ l) parts ∙ sym (append_assoc log so_far rest)) at_last.kept in
    record {
      loaded = record {
        earlier = at_first.earlier;
        later = at_first.later ++ so_far;
        cut = ap (λ (l : List Event). l ++ so_far) at_first.cut
            ∙ append_assoc at_first.earlier (loading code id ∷ at_first.later) so_far;
        first = at_first.first;
        last = never-joined (loads id) at_first.later so_far at_first.last
            (never-before (loads id) so_far rest (never-after (loads id) at_first.later (so_far ++ rest) none));
      };
      kept = never-before (retires id) (log ++ so_far) rest all;
    }

-- The promise for a picked cell on its connection.

module _ (shape : Shape) (log : List Event) (world : World) (sound : WorldInvariant world) (known : Knows shape log world) (port : ℕ) (pick : Picking) (had : slice_get world.ports port ≡ Some (picked pick)) (connection : Connection) (found : connection_in world.connections pick.vc ≡ Some connection) (same : connection.incarnation ≡ pick.incarnation) (allowed : IsAllowed world connection pick.moment) where
  own-vc : pick.vc ≡ vc_of shape.side pick.cell
  own-vc = (sound.ports port pick had).own ∙ ap (λ (s : Shape). vc_of s.side pick.cell) known.shape_is

  live-picked : (p : KnowsPick shape log world.loaded world.connections port pick)
      → IsLiveThrough p.at_pick (picking port ∷ p.since) pick.program p.code
  live-picked p =
      let there = there_is (code_in world.live pick.program) (sound.ports port pick had).live in
      let live : IsLiveCode log pick.program p.code = record {
        loaded = known.codes.loaded pick.program p.code p.given_code;
        kept = known.codes.kept pick.program there.0 there.1;
      } in
      live-through p.at_pick (picking port ∷ p.since) pick.program p.code p.loaded
      (subst (λ (l : List Event). IsLiveCode l pick.program p.code) p.cut live)

  pub promised-picked : IsPromised shape log port (judgement_on world pick connection)
  promised-picked =
      let p = known.picked_ports port pick had in
      let on = p.unchanged connection found same in
      let set_up = on.agrees.in_force in
      let unchanged : List Event = on.until ++ picking port ∷ p.since in
      let front : List Event = set_up.earlier ++ setting_up on.ask set_up.incarnation ∷ on.until in
      -- The events before the pick are those before the setup, the setup, and those until the pick.
      let parted : p.at_pick ++ picking port ∷ p.since ≡ front ++ picking port ∷ p.since =
      sym p.cut ∙ set_up.cut
      ∙ sym (append_assoc set_up.earlier (setting_up on.ask set_up.incarnation ∷ on.until) (picking port ∷ p.since)) in
      let at_front : p.at_pick ≡ front =
      (one-cut (moves port) p.at_pick front (picking port) (picking port) p.since p.since
      (eq-eqb port port refl) (eq-eqb port port refl) p.alone p.alone parted).fronts in
      let asked : pick.vc ≡ on.ask.vc = sym set_up.asked in
      record {
        earlier = set_up.earlier;
        ask = on.ask;
        incarnation = set_up.incarnation;
        until = on.until;
        since = p.since;
        parts = set_up.cut;
        alone = p.alone;
        came = pick.cell;
        arrived = subst (λ (l : List Event). HasEntered l port pick.cell pick.moment) at_front p.arrived;
        left = refl;
        own = set_up.asked ∙ own-vc;
        unchanged = subst (λ (v : Vc). Never (changes v) unchanged) asked set_up.unchanged;
        named = subst (λ (v : Vc). pick.program ≡ program_after v on.ask.program on.until) asked on.named;
        code = p.code;
        accepted = sound.programs.accepted pick.program p.code p.given_code;
        live = subst (λ (l : List Event). IsLiveThrough l (picking port ∷ p.since) pick.program p.code) at_front (live-picked p);
        gives = p.gives;
        history = connection.history;
        cells = subst (λ (v : Vc). connection.history ≡ cells_judged_on shape v unchanged) asked on.agrees.cells;
        held = on.agrees.held;
        in_order = history-more 0 connection.history (cell_of_picking pick)
            (sound.connections.each pick.vc connection found).history allowed.forward;
        in_time = allowed.early;
        decided = ap (λ (contracts : List Contract). verdict_after contracts empty_buckets connection.history (cell_of_picking pick)) on.agrees.contracts;
        counted = ap (λ verdicts. number_with verdicts (verdict_on connection (cell_of_picking pick))) (known.verdicts connection.line);
      }

-- The promise for the judged cell of an answer.

promised-judges : (shape : Shape) (log : List Event) (before : World) (port : ℕ) (reply : Reply) (after : World) (judged : JudgedView)
    → WorldInvariant before → Knows shape log before → refusal before (Judge port) ≡ None → Judges before port reply after
    → judged_in_reply reply ≡ Some judged → IsPromised shape log port judged
promised-judges shape log before port reply after judged sound known allowed w is =
    let may = picking-allowed before port w.picking w.connection w.had w.found allowed in
    let same : judgement_on before w.picking w.connection ≡ judged =
    same_some (judgement_on before w.picking w.connection) judged (sym (ap judged_in_reply w.answer) ∙ is) in
    subst (IsPromised shape log port) same
    (promised-picked shape log before sound known port w.picking w.had w.connection w.found may.0 may.1)

-- A refused Judge has no judged cell.
refused-none : (refused : Reply) → CellRefused refused → judged_in_reply refused ≡ None
refused-none refused (at_no_time is) = ap judged_in_reply is
refused-none refused (with_answer answer is unjudged) = ap judged_in_reply is ∙ unjudged

promised-step : (shape : Shape) (log : List Event) (before : World) (port : ℕ) (reply : Reply) (after : World) (judged : JudgedView)
    → WorldInvariant before → Knows shape log before → WorldStep before (Judge port) reply after
    → judged_in_reply reply ≡ Some judged → IsPromised shape log port judged
promised-step shape log before port reply after judged sound known w is = elim (step-case before (Judge port) reply after w) [
  | succeeded allowed success ↦ promised-judges shape log before port reply after judged sound known allowed success is
  | starved memory ↦ let none = memory.answer in absurd (cc)
  | rejected refused e refusing ↦
      let none : judged_in_reply reply ≡ None =
      ap judged_in_reply refusing.answer ∙ refused-none refused (judge-refused before (slice_get before.ports port) refused e) in
      absurd (cc)
]

pub judged-promised : EachJudgedCellIsPromised
judged-promised shape before after port judged is =
    let event : Event = judging port judged in
    let parts = run-parts (opening_world shape) before (event ∷ after) is.0 is.1 in
    promised-step shape before parts.0 port event.reply parts.2.0 judged
    (reached-sound shape before parts.0 parts.1) (leads-knows shape before parts.0 parts.1) parts.2.1 refl

pub headline : TheHeadline
headline = record {
  programs_return = returns-safely;
  cells_are_promised = judged-promised;
}
