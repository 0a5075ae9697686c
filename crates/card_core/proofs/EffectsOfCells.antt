-- Each step at a port has the effect that its reply shows.
use Rattle.std.proofs.Common.{◌≡◌, ◌≢◌, ℕ, ◌==◌, Bool, true, false, cond, List, [], ◌∷◌, ◌++◌, map, filter, Some, None, slice_get, append-nil, refl, sym, ap, ◌∙◌, subst, inl, inr}
use Rattle.std.proofs.lemmas.Bool.{eq-eqb, ne_eqb, cases_eq}
use Rattle.upc_cell.specs.declared.vc.Vc.{Vc}
use Rattle.upc_cell.specs.Connection.{vc_of, is_same_vc}
use Rattle.upc_cell.proofs.Public.{vc_itself, vc_differs}
use Rattle.bpf_code.specs.declared.instr.Instr.{Instr}
use Rattle.gen_arena.specs.declared.id.Id.{Id}
use Rattle.leaky.specs.declared.verdict.Verdict.{Verdict}
use Rattle.line_record.specs.History.{NamedCell, numbered, buckets_after_cells, empty_buckets}
use Rattle.card_core.specs.declared.answer.Answer.{Answer}
use Rattle.card_core.specs.declared.ask.Ask.{Ask}
use Rattle.card_core.specs.declared.fault.DeskFault.{DeskFault}
use Rattle.card_core.specs.declared.reply.Reply.{Reply}
use Rattle.card_core.specs.declared.reply.Reply.TheVariants.{Entered, Picked, NotNow, Answered, NotLoaded, NotSetUp, Refused}
use Rattle.card_core.specs.declared.shape.Shape.{Shape}
use Rattle.card_core.specs.declared.step.Step.{Step}
use Rattle.card_core.specs.declared.step.Step.TheVariants.{Enter, Pick, Judge}
use Rattle.card_core.specs.World.{World, Connection, Picking, PortState, outside, entered, picked, connection_in, with_port, with_verdict}
use Rattle.card_core.specs.Steps.{Enters, Picks, Judges, cell_after, cell_of_picking, with_cell, verdict_on, judged_answer, picking_of, judged_world, number_with}
use Rattle.card_core.specs.Judged.{JudgedView, judged_in_answer}
use Rattle.card_core.specs.Headline.{loads, retires, changes, named_after, judged_in_reply, as_it_came, verdicts_on, cells_on, cells_judged_on}
use Rattle.card_core.proofs.LogLemmas.{event_of, none-judged}
use Rattle.card_core.proofs.Sound.{WorldInvariant}
use Rattle.card_core.proofs.CellLemmas.{vc-after, came}
use Rattle.card_core.proofs.Effects.{store_same, Kept, kept, IsSilent, connections-same, connections-with, IsPickedNow, PortEffects, ports-moved, StepEffects}
use Rattle.card_core.proofs.SoundChanges.{picked_same}

-- Some answers show no change.

pub record IsQuiet (reply : Reply) : Type 0 where
  pub no_code : (id : Id) (step : Step) → loads id (event_of step reply) ≡ false
  pub none_retired : (id : Id) (step : Step) → retires id (event_of step reply) ≡ false
  pub no_change : (vc : Vc) (step : Step) → changes vc (event_of step reply) ≡ false
  pub no_program : (vc : Vc) (program : Id) (step : Step) → named_after vc program reply step ≡ program
  pub no_cell : judged_in_reply reply ≡ None

pub quiet-not_now : IsQuiet NotNow
quiet-not_now = record {
  no_code = λ id step. refl;
  none_retired = λ id step. refl;
  no_change = λ vc step. refl;
  no_program = λ vc program step. refl;
  no_cell = refl;
}

pub quiet-answered : (answer : Answer) → judged_in_answer answer ≡ None → IsQuiet (Answered answer)
quiet-answered answer unjudged = record {
  no_code = λ id step. refl;
  none_retired = λ id step. refl;
  no_change = λ vc step. refl;
  no_program = λ vc program step. refl;
  no_cell = unjudged;
}

pub quiet-refused : (fault : DeskFault) → IsQuiet (Refused fault)
quiet-refused fault = record {
  no_code = λ id step. refl;
  none_retired = λ id step. refl;
  no_change = λ vc step. refl;
  no_program = λ vc program step. refl;
  no_cell = refl;
}

pub quiet-not_loaded : (fault : DeskFault) (code : List Instr) → IsQuiet (NotLoaded fault code)
quiet-not_loaded fault code = record {
  no_code = λ id step. refl;
  none_retired = λ id step. refl;
  no_change = λ vc step. refl;
  no_program = λ vc program step. refl;
  no_cell = refl;
}

pub quiet-not_set_up : (fault : DeskFault) (ask : Ask) → IsQuiet (NotSetUp fault ask)
quiet-not_set_up fault ask = record {
  no_code = λ id step. refl;
  none_retired = λ id step. refl;
  no_change = λ vc step. refl;
  no_program = λ vc program step. refl;
  no_cell = refl;
}

pub silent-quiet : (vc : Vc) (step : Step) (reply : Reply) → IsQuiet reply → IsSilent vc step reply
silent-quiet vc step reply quiet = record {
  unchanged = quiet.no_change vc step;
  programs = λ program. quiet.no_program vc program step;
  cells = none-judged step reply quiet.no_cell;
}

pub no-verdicts : (judged : List Verdict) (line : ℕ) (step : Step) (reply : Reply) → judged_in_reply reply ≡ None
    → judged ≡ judged ++ verdicts_on line (event_of step reply ∷ [])
no-verdicts given line step reply none =
    sym (ap (λ (added : List JudgedView). given ++ map (λ judged. judged.verdict) (filter (λ judged. judged.line == line) added)) (none-judged step reply none)
    ∙ append-nil given)

pub effects-quiet : (shape : Shape) (before : World) (step : Step) (reply : Reply) (ports : List PortState) → IsQuiet reply
    → PortEffects before (record before { ports = ports }) step reply
    → StepEffects shape before step reply (record before { ports = ports })
effects-quiet shape before step reply ports quiet moves = record {
  shape_same = refl;
  store = store_same refl refl (λ id. quiet.no_code id step) (λ id. quiet.none_retired id step);
  connections = connections-same shape before (record before { ports = ports }) step reply (λ vc. silent-quiet vc step reply quiet) refl;
  ports = moves;
  verdicts = λ line. no-verdicts (before.verdicts line) line step reply quiet.no_cell;
}

-- The reply and the world after a step, replaced by equal ones.
pub effects-at : (shape : Shape) (before : World) (step : Step) (one other : Reply) (after later : World)
    → one ≡ other → after ≡ later → StepEffects shape before step other later → StepEffects shape before step one after
effects-at shape before step one other after later same leads effects =
    subst (λ (r : Reply). StepEffects shape before step r after) (sym same)
    (subst (λ (w : World). StepEffects shape before step other w) (sym leads) effects)

-- Enter and Pick show whose cell is at the port, and since when.

enter_of : ℕ → PortState → Step
enter_of port outside = Enter port [] 0
enter_of port (entered cell moment) = Enter port cell moment
enter_of port (picked picking) = Enter port [] 0

enter_same : (port : ℕ) (one other : List ℕ) (moment another : ℕ) → entered one moment ≡ entered other another
    → Enter port one moment ≡ Enter port other another
unfolding enter_of
enter_same port one other moment another e = ap (enter_of port) e

pub effects-enters : (shape : Shape) (before : World) (port : ℕ) (cell : List ℕ) (moment : ℕ) (reply : Reply) (after : World)
    → Enters before port cell moment reply after → StepEffects shape before (Enter port cell moment) reply after
effects-enters shape before port cell moment reply after w =
    let step : Step = Enter port cell moment in
    let later : World = with_port before port (entered cell moment) in
    effects-at shape before step reply Entered after later w.answer w.world (record {
      shape_same = refl;
      store = store_same refl refl (λ id. refl) (λ id. refl);
      connections = connections-same shape before later step Entered (λ vc. record { unchanged = refl; programs = λ program. refl; cells = refl }) refl;
      ports = ports-moved before later step Entered port (entered cell moment) refl (λ other. refl)
          (λ other another e. (enter_same port cell other moment another e, refl))
          (λ picking e. absurd (cc));
      verdicts = λ line. no-verdicts (before.verdicts line) line step Entered refl;
    })

pub effects-picks : (shape : Shape) (before : World) (port : ℕ) (reply : Reply) (after : World)
    → Picks before port reply after → StepEffects shape before (Pick port) reply after
effects-picks shape before port reply after w =
    let step : Step = Pick port in
    let vc : Vc = vc_of before.shape.side w.cell in
    let new : Picking = picking_of w.cell w.moment vc w.connection w.value in
    let later : World = with_port before port (picked new) in
    let now : IsPickedNow before port new step Picked = record {
      step_is = refl;
      reply_is = refl;
      had = w.had;
      connection = w.connection;
      found = w.found;
      incarnation = refl;
      program = refl;
      code = w.code;
      given = w.named;
      gives = w.gives;
    } in
    effects-at shape before step reply Picked after later w.answer w.world (record {
      shape_same = refl;
      store = store_same refl refl (λ id. refl) (λ id. refl);
      connections = connections-same shape before later step Picked (λ vc. record { unchanged = refl; programs = λ program. refl; cells = refl }) refl;
      ports = ports-moved before later step Picked port (picked new) refl (λ other. refl)
          (λ cell moment e. absurd (cc))
          (λ picking e. subst (λ (p : Picking). IsPickedNow before port p step Picked) (picked_same new picking e) now);
      verdicts = λ line. no-verdicts (before.verdicts line) line step Picked refl;
    })

-- The judged cell of the answer.
abbrev pub judgement_on : World → Picking → Connection → JudgedView
judgement_on before picking connection = record {
  line = connection.line;
  number = number_with (before.verdicts connection.line) (verdict_on connection (cell_of_picking picking));
  moment = picking.moment;
  value = picking.value;
  program = picking.program;
  verdict = verdict_on connection (cell_of_picking picking);
  cell = cell_after (verdict_on connection (cell_of_picking picking)) picking.cell;
}

-- It shows the cell as the history has it.
pub cell-judged : (before : World) (picking : Picking) (connection : Connection)
    → as_it_came (judgement_on before picking connection) ≡ cell_of_picking picking
cell-judged before picking connection =
    let as_named : Bool → NamedCell = λ clp. record {
      moment = picking.moment;
      clp = clp;
      value = picking.value;
      program = picking.program;
    } in
    ap as_named (came picking.cell (numbered connection.contracts picking.value)
    (buckets_after_cells connection.contracts empty_buckets connection.history picking.value) (cell_of_picking picking) refl)

module _ (shape : Shape) (before : World) (sound : WorldInvariant before) (same_shape : before.shape ≡ shape) (port : ℕ) (picking : Picking) (had : slice_get before.ports port ≡ Some (picked picking)) (connection : Connection) (found : connection_in before.connections picking.vc ≡ Some connection) where
  judged_reply : Reply
  judged_reply = Answered (judged_answer before picking connection)

  judgement : JudgedView
  judgement = judgement_on before picking connection

  -- The judged cell of this event, if the test is true.
  shown : {X : Type 0} → (JudgedView → X) → Bool → List X
  shown show test = map show (cond test (judgement ∷ []) [])

  vc_of_leaving : vc_of shape.side (judgement_on before picking connection).cell ≡ picking.vc
  vc_of_leaving =
      vc-after shape.side (verdict_on connection (cell_of_picking picking)) picking.cell
      ∙ ap (λ (s : Shape). vc_of s.side picking.cell) (sym same_shape)
      ∙ sym (sound.ports port picking had).own

  judged_here : cells_judged_on shape picking.vc (event_of (Judge port) judged_reply ∷ []) ≡ cell_of_picking picking ∷ []
  unfolding judged_reply judgement shown
  judged_here =
      let at : is_same_vc picking.vc (vc_of shape.side (judgement_on before picking connection).cell) ≡ true =
      subst (λ (v : Vc). is_same_vc picking.vc v ≡ true) (sym vc_of_leaving) (vc_itself picking.vc) in
      ap (shown as_it_came) at ∙ ap (λ (c : NamedCell). c ∷ []) (cell-judged before picking connection)

  judged_others : (other : Vc) → other ≢ picking.vc → cells_judged_on shape other (event_of (Judge port) judged_reply ∷ []) ≡ []
  unfolding judged_reply judgement shown
  judged_others other apart =
      ap (shown as_it_came)
      (vc_differs other (vc_of shape.side (judgement_on before picking connection).cell) (λ same. apart (same ∙ vc_of_leaving)))

  judged_on_line : cells_on connection.line (event_of (Judge port) judged_reply ∷ []) ≡ cell_of_picking picking ∷ []
  unfolding judged_reply judgement shown
  judged_on_line =
      ap (shown as_it_came) (eq-eqb connection.line connection.line refl)
      ∙ ap (λ (c : NamedCell). c ∷ []) (cell-judged before picking connection)

  judged_on_others : (line : ℕ) → connection.line ≢ line → cells_on line (event_of (Judge port) judged_reply ∷ []) ≡ []
  unfolding judged_reply judgement shown
  judged_on_others line apart = ap (shown as_it_came) (ne_eqb connection.line line apart)

  judged-here : Kept shape connection (with_cell connection (cell_of_picking picking)) picking.vc (Judge port) judged_reply
  unfolding judged_reply
  judged-here = record {
    incarnation = refl;
    line = refl;
    contracts = refl;
    unchanged = refl;
    program = refl;
    cells = sym (ap (λ added. connection.history ++ added) judged_here);
    held = sym (ap (λ added. connection.history ++ added) judged_on_line);
  }

  judged-others : (other : Vc) → other ≢ picking.vc → (old : Connection) → connection_in before.connections other ≡ Some old
      → Kept shape old old other (Judge port) judged_reply
  unfolding judged_reply
  judged-others other apart old at = record {
    incarnation = refl;
    line = refl;
    contracts = refl;
    unchanged = refl;
    program = refl;
    cells = sym (ap (λ added. old.history ++ added) (judged_others other apart) ∙ append-nil old.history);
    held = sym (ap (λ added. old.history ++ added)
        (judged_on_others old.line (λ same. apart (sym (sound.connections.lines_apart picking.vc other connection old found at same))))
        ∙ append-nil old.history);
  }

  verdict_added : (line : ℕ) → with_verdict before.verdicts connection.line (verdict_on connection (cell_of_picking picking)) line
      ≡ before.verdicts line ++ verdicts_on line (event_of (Judge port) judged_reply ∷ [])
  unfolding judged_reply judgement shown
  verdict_added line =
      let verdict : Verdict = verdict_on connection (cell_of_picking picking) in
      elim (cases_eq line connection.line) [
        | inl same ↦
            ap (λ b. cond b (before.verdicts line ++ verdict ∷ []) (before.verdicts line)) (eq-eqb line connection.line same)
            ∙ ap (λ b. before.verdicts line ++ shown (λ judged. judged.verdict) b) (sym (eq-eqb connection.line line (sym same)))
        | inr apart ↦
            ap (λ b. cond b (before.verdicts line ++ verdict ∷ []) (before.verdicts line)) (ne_eqb line connection.line apart)
            ∙ sym (append-nil (before.verdicts line))
            ∙ ap (λ b. before.verdicts line ++ shown (λ judged. judged.verdict) b) (sym (ne_eqb connection.line line (λ same. apart (sym same))))
      ]

  judged-effects : StepEffects shape before (Judge port) judged_reply (judged_world before port picking connection)
  unfolding judged_reply
  judged-effects = record {
    shape_same = refl;
    store = store_same refl refl (λ id. refl) (λ id. refl);
    connections = connections-with shape before (judged_world before port picking connection) (Judge port) judged_reply picking.vc
        (with_cell connection (cell_of_picking picking)) refl (kept connection found judged-here) judged-others;
    ports = ports-moved before (judged_world before port picking connection) (Judge port) judged_reply port outside refl (λ other. refl)
        (λ cell moment e. absurd (cc)) (λ picking e. absurd (cc));
    verdicts = verdict_added;
  }

pub effects-judges : (shape : Shape) (before : World) (port : ℕ) (reply : Reply) (after : World) → WorldInvariant before → before.shape ≡ shape
    → Judges before port reply after → StepEffects shape before (Judge port) reply after
unfolding judged_reply
effects-judges shape before port reply after sound same_shape w =
    effects-at shape before (Judge port) reply (Answered (judged_answer before w.picking w.connection)) after
    (judged_world before port w.picking w.connection) w.answer w.world
    (judged-effects shape before sound same_shape port w.picking w.had w.connection w.found)
