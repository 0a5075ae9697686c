-- A Judge of a picked cell.
use Rattle.std.proofs.Common.{◌≡◌, ℕ, ◌+◌, ◌≤◌, Bool, true, false, cond, Option, Some, None, List, [], ◌∷◌, ◌++◌, length, set, refl, sym, ap, subst, ◌∙◌}
use Rattle.std.specs.Prelude.{slice_get, slice_set, option_map, ◌==◌}
use Rattle.std.proofs.lemmas.Bool.Decides.{Decides-eqb}
use Rattle.gen_arena.specs.Slot.{Slot}
use Rattle.upc_cell.specs.declared.vc.Vc.{Vc}
use Rattle.bpf_code.specs.declared.instr.Instr.{Instr}
use Rattle.leaky.specs.declared.contract.Contract.{Contract}
use Rattle.leaky.specs.declared.verdict.Verdict.{Verdict}
use Rattle.line_record.specs.declared.entry.Entry.{Entry}
use Rattle.line_record.specs.declared.owner.Owner.{Owner}
use Rattle.line_record.specs.declared.state.State.{State}
use Rattle.line_record.specs.Directory.{DirectoryView}
use Rattle.line_record.specs.History.{NamedCell, named_cell_of, empty_buckets, verdict_after}
use Rattle.line_record.specs.Line.{LineView, line_refusal}
use Rattle.line_record.specs.JournalRun.{tallied}
use Rattle.line_record.specs.StateAfter.{IsStateAfter}
use Rattle.line_record.specs.Tally.{tally_of, counted, count_of, cells_in}
use Rattle.line_record.proofs.Public.{each_cell_is_judged, verdicts_count}
use Rattle.card_core.specs.declared.answer.Answer.{Answer}
use Rattle.card_core.specs.declared.answer.Answer.TheVariants.{Judged, Released}
use Rattle.card_core.specs.declared.port.Port.{Port}
use Rattle.card_core.specs.declared.port.Port.TheVariants.{Outside}
use Rattle.card_core.specs.declared.port.Found.{Found}
use Rattle.card_core.specs.declared.reply.Reply.TheVariants.{Answered}
use Rattle.card_core.specs.declared.step.Step.TheVariants.{Judge}
use Rattle.card_core.specs.declared.shape.Shape.{Shape}
use Rattle.card_core.specs.World.{World, Connection, Picking, outside, picked, with_port, connection_in, kept_cells, returned_cells}
use Rattle.card_core.specs.Refusals.{refusal, judge_refusal, picking_refusal, cell_refusal}
use Rattle.card_core.specs.Steps.{WorldStep, cell_of_picking, cell_after, verdict_on, with_cell, judged_world, number_with}
use Rattle.card_core.specs.Agreement.{CoreView, CoreAgrees, Follows, Serves, LinesAgree, seating_of}
use Rattle.card_core.specs.Sections.{holder, is_owned_by, answer_for, judging_refusal, JudgesAt}
use Rattle.card_core.specs.inner.Ports.{found_in, found_picking}
use Rattle.card_core.specs.inner.Parts.{ChangesLine, JudgesOrRefuses}
use Rattle.card_core.proofs.Sound.{WorldInvariant}
use Rattle.card_core.proofs.Follow.{follows, step-refused, step-taken}
use Rattle.card_core.proofs.LookUps.{same_some}
use Rattle.card_core.proofs.LineLemmas.{Change, set-again, lines-with, seatings-kept}
use Rattle.card_core.proofs.OwnerLemmas.{owned, owned-itself}
use Rattle.card_core.proofs.PortLemmas.{core_of, found_there, moved, CoreAgrees-moved}
use Rattle.card_core.proofs.PortSteps.{at-port}
use Rattle.card_core.proofs.JudgeLemmas.{match_some, match_none, refusals_agree, judged-with_cell, handed-with_cell, with_verdict-here, with_verdict-other, tallied-more}

-- A line that serves a connection, after it judged the connection's next cell.
module _ (line next : LineView) (vc : Vc) (connection : Connection) (verdicts : List Verdict) (found : Found) (answer : Answer)
    (serves : Serves line vc connection verdicts) (within : connection.returned ≤ length connection.history)
    (counts : line.state.counts ≡ tally_of verdicts)
    (judges : JudgesAt line found.seating found.named found.moment answer next) where
  abbrev Cell : NamedCell
  Cell = cell_of_picking (found_picking found)

  holds : IsStateAfter line.contracts connection.history line.state
  holds = subst (λ (under : List Contract). IsStateAfter under connection.history line.state) (sym serves.contracts) serves.state

  pub judged-verdict : judges.entry.verdict ≡ verdict_on connection Cell
  judged-verdict =
      judges.verdict connection.history holds
      ∙ ap (λ (under : List Contract). verdict_after under empty_buckets connection.history (named_cell_of judges.entry)) serves.contracts
      ∙ ap (verdict_after connection.contracts empty_buckets connection.history) judges.cell

  pub judged-counts : next.state.counts ≡ tally_of (verdicts ++ verdict_on connection Cell ∷ [])
  judged-counts =
      judges.gains.run.counts
      ∙ ap (λ (verdict : Verdict). counted line.state.counts verdict) judged-verdict
      ∙ ap (λ tally. counted tally (verdict_on connection Cell)) counts
      ∙ sym (verdicts_count.next verdicts (verdict_on connection Cell))

  pub judged-serves : Serves next vc (with_cell connection Cell) (verdicts ++ verdict_on connection Cell ∷ [])
  judged-serves = record {
    owner = ap (λ (l : LineView). l.owner) judges.gains.after ∙ serves.owner;
    contracts = ap (λ (l : LineView). l.contracts) judges.gains.after ∙ serves.contracts;
    entries = ap (λ (l : LineView). l.entries) judges.gains.after
        ∙ ap (λ (entries : List Entry). entries ++ judges.entry ∷ []) serves.entries
        ∙ judged-with_cell connection Cell judges.entry within judges.cell judged-verdict;
    start = subst (λ (history : List NamedCell). IsStateAfter connection.contracts history next.start)
        (sym (handed-with_cell connection Cell within))
        (subst (λ (state : State). IsStateAfter connection.contracts (returned_cells connection) state)
        (sym (ap (λ (l : LineView). l.start) judges.gains.after)) serves.start);
    together = ap (λ (l : LineView). tallied l.start.counts l.entries) judges.gains.after
        ∙ tallied-more line.start.counts line.entries verdicts judges.entry (verdict_on connection Cell) judged-verdict serves.together;
    state = subst (λ (under : List Contract). IsStateAfter under (connection.history ++ Cell ∷ []) next.state)
        (ap (λ (l : LineView). l.contracts) judges.gains.after ∙ serves.contracts)
        (subst (λ (cell : NamedCell). IsStateAfter next.contracts (connection.history ++ cell ∷ []) next.state) judges.cell
        (judges.history connection.history holds));
  }

  pub judged-answer : found.seating.line ≡ connection.line
      → answer ≡ Judged connection.line (number_with verdicts (verdict_on connection Cell)) found.moment found.named.value
      found.named.program (verdict_on connection Cell) (cell_after (verdict_on connection Cell) found.named.cell)
  judged-answer on =
      let AnswerWith : ℕ → ℕ → Verdict → Answer = λ number many verdict.
      Judged number many found.moment found.named.value found.named.program verdict (cell_after verdict found.named.cell) in
      judges.answered
      ∙ ap (λ (number : ℕ). AnswerWith number (count_of line.state.counts judges.entry.verdict + 1) judges.entry.verdict) on
      ∙ ap (λ tally. AnswerWith connection.line (count_of tally judges.entry.verdict + 1) judges.entry.verdict) counts
      ∙ ap (λ (verdict : Verdict). AnswerWith connection.line (count_of (tally_of verdicts) verdict + 1) verdict) judged-verdict

-- The refusal of a picked cell, from the world's connection.
refused-as : (world : World) (port : ℕ) (picking : Picking) → slice_get world.ports port ≡ Some (picked picking)
    → refusal world (Judge port) ≡ option_map Answered (picking_refusal world picking (connection_in world.connections picking.vc))
refused-as world port picking had = ap (judge_refusal world) had

same-incarnation : (world : World) (picking : Picking) (connection : Connection) → connection.incarnation ≡ picking.incarnation
    → picking_refusal world picking (Some connection) ≡ cell_refusal world connection picking.moment
same-incarnation world picking connection same =
    ap (λ (b : Bool). cond b (cell_refusal world connection picking.moment) (Some Released))
    ((Decides-eqb connection.incarnation picking.incarnation).1 same)

module _ (shape : Shape) (store : List (Slot (List Instr))) (directory : DirectoryView) (lines : List LineView) (ports : List Port) (port : ℕ)
    (found : Found) (there : found_in (slice_get ports port) ≡ Some found) where
  abbrev Old : CoreView
  Old = core_of shape store directory lines ports

  abbrev New : List LineView → CoreView
  New after = core_of shape store directory after (slice_set ports port Outside)

  had : (before : World) → CoreAgrees Old before → slice_get before.ports port ≡ Some (picked (found_picking found))
  had before agrees = at-port shape store directory lines ports port before agrees ∙ found_there (slice_get ports port) found there

  -- The refusal of a picked cell leaves the port without a cell and changes nothing else.
  refused : (before : World) → CoreAgrees Old before → (answer : Answer) (after : List LineView) → after ≡ lines
      → refusal before (Judge port) ≡ Some (Answered answer)
      → (world : World) × WorldStep before (Judge port) (Answered answer) world × CoreAgrees (New after) world
  refused before agrees answer after same refusing = (
    with_port before port outside,
    step-refused before (Judge port) (Answered answer) refusing,
    subst (λ (list : List LineView). CoreAgrees (New list) (with_port before port outside)) (sym same)
        (CoreAgrees-moved shape store directory lines ports before port Outside outside refl agrees),
  )

  -- The line serves the picked connection and judges the cell.
  taken : (before : World) → WorldInvariant before → CoreAgrees Old before → (answer : Answer) (line next : LineView) (connection : Connection)
      → slice_get lines found.seating.line ≡ Some line
      → connection_in before.connections found.vc ≡ Some connection → connection.line ≡ found.seating.line
      → Serves line found.vc connection (before.verdicts connection.line)
      → JudgesAt line found.seating found.named found.moment answer next
      → refusal before (Judge port) ≡ None
      → (world : World) × WorldStep before (Judge port) (Answered answer) world × CoreAgrees (New (set lines found.seating.line next)) world
  taken before sound agrees answer line next connection at known on serves judges free =
      let number = connection.line in
      let verdicts = before.verdicts number in
      let vc = found.vc in
      let here : slice_get lines number ≡ Some line = subst (λ (n : ℕ). slice_get lines n ≡ Some line) (sym on) at in
      let counts : line.state.counts ≡ tally_of verdicts = agrees.lines.counts number line here in
      let within = (sound.connections.each vc connection known).returned in
      let cell = cell_of_picking (found_picking found) in
      let verdict = verdict_on connection cell in
      let after : World = judged_world before port (found_picking found) connection in
      let added = with_verdict-here before.verdicts number verdict in
      let change : Change before.shape lines before.connections before.verdicts agrees.lines number line next after.verdicts = record {
        there = here;
        journal = ap (λ (l : LineView). l.journal) judges.gains.after;
        counts = judged-counts line next vc connection verdicts found answer serves within counts judges ∙ ap tally_of (sym added);
        others = λ other apart. with_verdict-other before.verdicts number verdict other apart;
      } in
      let served : Serves next vc (with_cell connection cell) (after.verdicts number) =
      subst (λ (list : List Verdict). Serves next vc (with_cell connection cell) list) (sym added)
      (judged-serves line next vc connection verdicts found answer serves within counts judges) in
      let lines_after : LinesAgree before.shape (set lines number next) after.connections after.verdicts =
      lines-with before.shape lines before.connections before.verdicts agrees.lines number line next after.verdicts change
      vc (with_cell connection cell) refl served
      (λ other another apart is same. apart (sound.connections.lines_apart other vc another connection is known same))
      (λ old is. ap (λ (c : Connection). c.line) (same_some old connection (sym is ∙ known))) in (
        after,
        step-taken before after (Judge port) (Answered answer) free (record {
          picking = found_picking found;
          had = had before agrees;
          connection = connection;
          found = known;
          answer = ap Answered (judged-answer line next vc connection verdicts found answer serves within counts judges (sym on));
          world = refl;
        }),
        record {
          shape = agrees.shape;
          store = agrees.store;
          seatings = seatings-kept before.shape directory before.connections before.incarnations agrees.seatings vc (with_cell connection cell)
              (agrees.seatings.seatings vc ∙ ap (option_map seating_of) known);
          lines = subst (λ (n : ℕ). LinesAgree before.shape (set lines n next) after.connections after.verdicts) on lines_after;
          ports = moved ports before.ports port Outside agrees.ports;
        },
      )

  module _ (answer : Answer) (after : List LineView) (change : ChangesLine lines found.seating.line (JudgesOrRefuses found answer) after) where
    abbrev Result : World → Type 0
    Result before = (world : World) × WorldStep before (Judge port) (Answered answer) world × CoreAgrees (New after) world

    abbrev Holder : Owner
    Holder = holder found.vc found.seating

    -- A refusal leaves the lines unchanged.
    unchanged : change.next ≡ change.line → after ≡ lines
    unchanged same =
        change.after ∙ ap (set lines found.seating.line) same ∙ set-again lines found.seating.line change.line change.there

    -- A connection with the picked incarnation has the line that was found.
    line-of : (before : World) → CoreAgrees Old before → (connection : Connection)
        → connection_in before.connections found.vc ≡ Some connection → connection.line ≡ found.seating.line
        → Serves change.line found.vc connection (before.verdicts connection.line)
    line-of before agrees connection known on =
        let serving = agrees.lines.serving found.vc connection known in
        let at : slice_get lines found.seating.line ≡ Some serving.0 =
        subst (λ (n : ℕ). slice_get lines n ≡ Some serving.0) on serving.1 in
        subst (λ (l : LineView). Serves l found.vc connection (before.verdicts connection.line))
        (same_some serving.0 change.line (sym at ∙ change.there)) serving.2

    -- The line doesn't serve the picked connection.
    gone : (before : World) → WorldInvariant before → CoreAgrees Old before → is_owned_by change.line.owner Holder ≡ false
        → (now : Option Connection) → connection_in before.connections found.vc ≡ now
        → picking_refusal before (found_picking found) now ≡ Some Released
    gone before sound agrees other None known = refl
    gone before sound agrees other (Some connection) known =
        let choice : (b : Bool) → (connection.incarnation == found.seating.incarnation) ≡ b
        → picking_refusal before (found_picking found) (Some connection) ≡ Some Released = elim [
          | true ↦ λ e.
              let same : connection.incarnation ≡ found.seating.incarnation =
              (Decides-eqb connection.incarnation found.seating.incarnation).0 e in
              let on : connection.line ≡ found.seating.line =
              (sound.ports port (found_picking found) (had before agrees)).same_line connection known same in
              let serves = line-of before agrees connection known on in
              let owner : change.line.owner ≡ Some Holder =
              serves.owner ∙ ap (λ (n : ℕ). Some (record { vc = found.vc; incarnation = n })) same in
              let its : is_owned_by change.line.owner Holder ≡ true =
              ap (λ (o : Option Owner). is_owned_by o Holder) owner ∙ owned-itself Holder in
              absurd (cc)
          | false ↦ λ e. ap (λ (b : Bool). cond b (cell_refusal before connection found.moment) (Some Released)) e
        ] in
        choice (connection.incarnation == found.seating.incarnation) refl

    released : (before : World) → WorldInvariant before → CoreAgrees Old before → is_owned_by change.line.owner Holder ≡ false → Result before
    released before sound agrees other =
        let core : judging_refusal change.line found.vc found.seating found.moment ≡ Some Released =
        ap (λ (b : Bool). cond b (option_map answer_for (line_refusal change.line found.moment)) (Some Released)) other in
        let did = match_some (judging_refusal change.line found.vc found.seating found.moment)
        (JudgesAt change.line found.seating found.named found.moment answer change.next)
        (λ why. (answer ≡ why) × (change.next ≡ change.line)) Released core change.did in
        refused before agrees answer after (unchanged did.1)
        (refused-as before port (found_picking found) (had before agrees)
        ∙ ap (option_map Answered) (gone before sound agrees other (connection_in before.connections found.vc) refl)
        ∙ ap (λ (a : Answer). Some (Answered a)) (sym did.0))

    -- The line serves the picked connection.
    held : (before : World) → WorldInvariant before → CoreAgrees Old before → is_owned_by change.line.owner Holder ≡ true → Result before
    held before sound agrees own =
        let owner : change.line.owner ≡ Some Holder = owned change.line.owner Holder own in
        let of = agrees.lines.owned found.seating.line change.line Holder change.there owner in
        let connection : Connection = of.connection in
        let serves = line-of before agrees connection of.found of.line in
        let at : slice_get lines connection.line ≡ Some change.line =
        subst (λ (n : ℕ). slice_get lines n ≡ Some change.line) (sym of.line) change.there in
        let kept : length change.line.entries ≡ length (kept_cells connection) =
        ap length serves.entries
        ∙ (each_cell_is_judged connection.contracts empty_buckets (returned_cells connection) (kept_cells connection)).0 in
        let counts : cells_in change.line.state.counts ≡ length (before.verdicts connection.line) =
        ap cells_in (agrees.lines.counts connection.line change.line at) ∙ verdicts_count.cells (before.verdicts connection.line) in
        let same : option_map answer_for (line_refusal change.line found.moment) ≡ cell_refusal before connection found.moment =
        refusals_agree change.line before connection found.moment
        (agrees.lines.journals connection.line change.line at) serves.state.last kept counts in
        let core : judging_refusal change.line found.vc found.seating found.moment ≡ cell_refusal before connection found.moment =
        ap (λ (b : Bool). cond b (option_map answer_for (line_refusal change.line found.moment)) (Some Released)) own ∙ same in
        let world : refusal before (Judge port) ≡ option_map Answered (cell_refusal before connection found.moment) =
        refused-as before port (found_picking found) (had before agrees)
        ∙ ap (λ (o : Option Connection). option_map Answered (picking_refusal before (found_picking found) o)) of.found
        ∙ ap (option_map Answered) (same-incarnation before (found_picking found) connection of.incarnation) in
        let Judges = JudgesAt change.line found.seating found.named found.moment answer change.next in
        let Refuses : Answer → Type 0 = λ why. (answer ≡ why) × (change.next ≡ change.line) in
        let choice : (o : Option Answer) → cell_refusal before connection found.moment ≡ o → Result before = elim [
          | None ↦ λ e.
              let judges = match_none (judging_refusal change.line found.vc found.seating found.moment) Judges Refuses (core ∙ e) change.did in
              let on = taken before sound agrees answer change.line change.next connection change.there of.found of.line serves judges
              (world ∙ ap (option_map Answered) e) in
              (on.0, on.1, subst (λ (list : List LineView). CoreAgrees (New list) on.0) (sym change.after) on.2)
          | Some why ↦ λ e.
              let did = match_some (judging_refusal change.line found.vc found.seating found.moment) Judges Refuses why (core ∙ e) change.did in
              refused before agrees answer after (unchanged did.1)
              (world ∙ ap (option_map Answered) e ∙ ap (λ (a : Answer). Some (Answered a)) (sym did.0))
        ] in
        choice (cell_refusal before connection found.moment) refl

    pub judge-goes : Follows Old (Judge port) (Answered answer) (New after)
    judge-goes = follows Old (New after) (Judge port) (Answered answer) (λ before sound agrees.
        let choice : (b : Bool) → is_owned_by change.line.owner Holder ≡ b → Result before = elim [
          | true ↦ λ e. held before sound agrees e
          | false ↦ λ e. released before sound agrees e
        ] in
        choice (is_owned_by change.line.owner Holder) refl)
