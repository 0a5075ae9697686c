-- A Pick, successful or refused.
use Rattle.std.proofs.Common.{◌≡◌, ℕ, cond, Option, Some, None, List, IsSome, refl, sym, ap, subst, ◌∙◌}
use Rattle.std.specs.Prelude.{slice_get, slice_set, option_map, is_none}
use Rattle.gen_arena.specs.Slot.{Slot}
use Rattle.gen_arena.specs.declared.id.Id.{Id}
use Rattle.upc_cell.specs.declared.vc.Vc.{Vc}
use Rattle.upc_cell.specs.Connection.{vc_of}
use Rattle.bpf_code.specs.declared.instr.Instr.{Instr}
use Rattle.line_record.specs.declared.directory.Seating.{Seating}
use Rattle.line_record.specs.Directory.{DirectoryView, seating_at}
use Rattle.line_record.specs.Line.{LineView}
use Rattle.card_core.specs.declared.answer.Answer.{Answer}
use Rattle.card_core.specs.declared.answer.Answer.TheVariants.{Judged, NoConnection, Released, Stale, MomentBack, MomentTooLate, JournalFull, NoMemory}
use Rattle.card_core.specs.declared.port.Port.{Port}
use Rattle.card_core.specs.declared.port.Port.TheVariants.{Outside, Picked as PickedPort}
use Rattle.card_core.specs.declared.port.Came.{Came}
use Rattle.card_core.specs.declared.port.Found.{Found}
use Rattle.card_core.specs.declared.reply.Reply.TheVariants.{Picked, Answered}
use Rattle.card_core.specs.declared.step.Step.TheVariants.{Pick}
use Rattle.card_core.specs.declared.shape.Shape.{Shape}
use Rattle.card_core.specs.World.{World, Connection, Picking, PortState, outside, entered, picked, with_port, connection_in, code_in}
use Rattle.card_core.specs.Refusals.{refusal, pick_refusal}
use Rattle.card_core.specs.Steps.{picking_of as picking_at}
use Rattle.card_core.specs.Agreement.{CoreView, CoreAgrees, Follows, seating_of}
use Rattle.card_core.specs.inner.Ports.{came_in, found_picking}
use Rattle.card_core.specs.inner.Parts.{IsFound, IsMissed}
use Rattle.card_core.proofs.Follow.{follows, step-refused, step-taken}
use Rattle.card_core.proofs.LookUps.{mapped, unmapped}
use Rattle.card_core.proofs.PortLemmas.{core_of, came, CoreAgrees-moved}
use Rattle.card_core.proofs.PortSteps.{at-port}

-- An entered cell whose connection exists isn't refused.
found-not_refused : (world : World) (state : Option PortState) (cell : List ℕ) (moment : ℕ) (connection : Connection)
    → state ≡ Some (entered cell moment) → connection_in world.connections (vc_of world.shape.side cell) ≡ Some connection
    → pick_refusal world state ≡ None
found-not_refused world state cell moment connection had found =
    ap (pick_refusal world) had
    ∙ ap (λ (o : Option Connection). cond (is_none o) (Some (Answered NoConnection)) None) found

-- An entered cell whose connection doesn't exist is refused.
missed-refused : (world : World) (state : Option PortState) (cell : List ℕ) (moment : ℕ)
    → state ≡ Some (entered cell moment) → connection_in world.connections (vc_of world.shape.side cell) ≡ None
    → pick_refusal world state ≡ Some (Answered NoConnection)
missed-refused world state cell moment had missed =
    ap (pick_refusal world) had
    ∙ ap (λ (o : Option Connection). cond (is_none o) (Some (Answered NoConnection)) None) missed

-- The values that were found are those that the world picks.
same-picking : (found : Found) (cell : List ℕ) (moment : ℕ) (vc : Vc) (connection : Connection)
    → found.named.cell ≡ cell → found.moment ≡ moment → found.vc ≡ vc → seating_of connection ≡ found.seating
    → found.named.program ≡ found.seating.program
    → found_picking found ≡ picking_at cell moment vc connection found.named.value
same-picking found cell moment vc connection cells moments vcs seatings programs =
    let Of : Seating → Picking = λ seating. record {
      cell = cell;
      moment = moment;
      vc = vc;
      incarnation = seating.incarnation;
      line = seating.line;
      program = seating.program;
      value = found.named.value;
    } in
    let first : found_picking found ≡ Of found.seating = λ i. record {
      cell = cells i;
      moment = moments i;
      vc = vcs i;
      incarnation = found.seating.incarnation;
      line = found.seating.line;
      program = programs i;
      value = found.named.value;
    } in
    first ∙ ap Of (sym seatings)

module _ (shape : Shape) (store : List (Slot (List Instr))) (directory : DirectoryView) (lines : List LineView) (ports : List Port) (port : ℕ)
    (here : Came) (there : came_in (slice_get ports port) ≡ Some here) where
  abbrev Old : CoreView
  Old = core_of shape store directory lines ports

  had : (before : World) → CoreAgrees Old before → slice_get before.ports port ≡ Some (entered here.cell here.moment)
  had before agrees = at-port shape store directory lines ports port before agrees ∙ came (slice_get ports port) here there

  pub pick-goes : (found : Found) → IsFound store directory shape.side here found
      → Follows Old (Pick port) Picked (core_of shape store directory lines (slice_set ports port (PickedPort found)))
  pick-goes found is = follows Old _ (Pick port) Picked (λ before sound agrees.
      let vc : Vc = vc_of before.shape.side here.cell in
      let same_vc : found.vc ≡ vc = is.own ∙ ap (λ (s : Shape). vc_of s.side here.cell) agrees.shape in
      let sits : option_map seating_of (connection_in before.connections vc) ≡ Some found.seating =
      sym (agrees.seatings.seatings vc) ∙ subst (λ (v : Vc). seating_at directory v ≡ Some found.seating) same_vc is.sits in
      let known = mapped seating_of (connection_in before.connections vc) found.seating sits in
      let connection : Connection = known.0 in
      let same_program : found.seating.program ≡ connection.program = ap (λ (s : Seating). s.program) known.2 in
      let live : code_in before.live connection.program ≡ Some is.naming.code =
      subst (λ (id : Id). code_in before.live id ≡ Some is.naming.code) same_program
      (sym (agrees.store.values found.seating.program) ∙ is.naming.live) in
      let same : found_picking found ≡ picking_at here.cell here.moment vc connection found.named.value =
      same-picking found here.cell here.moment vc connection is.naming.same is.moment same_vc (sym known.2) is.naming.program in
      let taken : refusal before (Pick port) ≡ None =
      found-not_refused before (slice_get before.ports port) here.cell here.moment connection (had before agrees) known.1 in
      let state : PortState = picked (picking_at here.cell here.moment vc connection found.named.value) in
      let after : World = with_port before port state in (
        after,
        step-taken before after (Pick port) Picked taken (record {
          cell = here.cell;
          moment = here.moment;
          had = had before agrees;
          connection = connection;
          found = known.1;
          code = is.naming.code;
          named = sound.programs.live_given connection.program is.naming.code live;
          value = found.named.value;
          gives = is.naming.gives;
          answer = refl;
          world = refl;
        }),
        CoreAgrees-moved shape store directory lines ports before port (PickedPort found) state (ap picked same) agrees,
      ))

  pub pick-missed : (answer : Answer) → IsMissed store directory (vc_of shape.side here.cell) answer
      → Follows Old (Pick port) (Answered answer) (core_of shape store directory lines (slice_set ports port Outside))
  pick-missed (Judged line number moment value program verdict cell) missed = absurd missed
  pick-missed NoConnection missed = follows Old _ (Pick port) (Answered NoConnection) (λ before sound agrees.
      let none : connection_in before.connections (vc_of before.shape.side here.cell) ≡ None =
      unmapped seating_of (connection_in before.connections (vc_of before.shape.side here.cell))
      (sym (agrees.seatings.seatings (vc_of before.shape.side here.cell))
      ∙ subst (λ (s : Shape). seating_at directory (vc_of s.side here.cell) ≡ None) agrees.shape missed) in
      let refused : refusal before (Pick port) ≡ Some (Answered NoConnection) =
      missed-refused before (slice_get before.ports port) here.cell here.moment (had before agrees) none in (
        with_port before port outside,
        step-refused before (Pick port) (Answered NoConnection) refused,
        CoreAgrees-moved shape store directory lines ports before port Outside outside refl agrees,
      ))
  pick-missed Released missed = absurd missed
  pick-missed Stale missed = follows Old _ (Pick port) (Answered Stale) (λ before sound agrees.
      let vc : Vc = vc_of before.shape.side here.cell in
      let at : seating_at directory vc ≡ Some missed.0 =
      subst (λ (s : Shape). seating_at directory (vc_of s.side here.cell) ≡ Some missed.0) agrees.shape missed.1 in
      let known = mapped seating_of (connection_in before.connections vc) missed.0 (sym (agrees.seatings.seatings vc) ∙ at) in
      let live : IsSome (code_in before.live known.0.program) = (sound.connections.each vc known.0 known.1).named_live in
      let none : code_in before.live known.0.program ≡ None =
      ap (code_in before.live) (ap (λ (s : Seating). s.program) (sym known.2))
      ∙ sym (agrees.store.values missed.0.program) ∙ missed.2 in
      absurd (cc))
  pick-missed (MomentBack last) missed = absurd missed
  pick-missed MomentTooLate missed = absurd missed
  pick-missed JournalFull missed = absurd missed
  pick-missed NoMemory missed = absurd missed
