-- The steps of a cell at port 0 taken together: its answer, the view of the card after it, and the invariant.
use Rattle.std.proofs.Common.{◌≡◌, ℕ, ◌+◌, ◌<◌, ◌≤◌, ◌==◌, inl, inr, Bool, true, false, if◌then◌else◌, List, [], ◌∷◌, ◌++◌, length, length-append, Some, None, refl, sym, ap, ◌∙◌, subst, arith}
use Rattle.upc_cell.specs.Connection.{vc_of}
use Rattle.upc_cell.specs.declared.vc.Vc.{Vc}
use Rattle.bpf_code.specs.declared.instr.Instr.{Instr}
use Rattle.leaky.specs.declared.verdict.Verdict.{Verdict}
use Rattle.line_record.specs.History.{NamedCell}
use Rattle.card_core.specs.Refusals.{cell_refusal}
use Rattle.card_core.specs.Steps.{Gives, WorldStep, judged_world, judged_answer, named_cell, picking_of, verdict_on, with_cell}
use Rattle.card_core.specs.World.{Connection, PortState, World, code_in, connection_in, entered, outside, picked, with_port, with_verdict}
use Rattle.card_core.specs.declared.answer.Answer.{Answer}
use Rattle.card_core.specs.declared.answer.Answer.TheVariants as answer
use Rattle.card_core.specs.declared.reply.Reply.TheVariants.{Answered, Picked}
use Rattle.card_core.specs.declared.step.Step.TheVariants.{Judge}
use Rattle.cmd_run.specs.RunText.{Arrives, IsAnswered}
use Rattle.cmd_run.specs.inner.PortZero.{PortIs}
use Rattle.cmd_run.proofs.one_script.CellCases.{entered-as, judge-case, found_so, judged_so, missed_so, pick-case, put-back, put-back_twice, put-there, refused_so, JudgeCase}
use Rattle.cmd_run.proofs.one_script.ConnectionSteps.{connections-changed, with-seen}
use Rattle.cmd_run.proofs.one_script.Numbers.{number_in}
use Rattle.cmd_run.proofs.one_script.Seen.{Seen, SeenConnection, seen, seen_connection, seen_connections, with_at}
use Rattle.cmd_run.proofs.one_script.SeenCells.{map-push}
use Rattle.cmd_run.proofs.one_script.SeenConnections.{all-found}
use Rattle.cmd_run.proofs.one_script.HoldsAfter.{HoldsAfter, JudgedAtMost, holds-later, judged-later}

-- A cell that arrived, as the view of a history contains it.
abbrev pub seen_cell : List ℕ → ℕ → ℕ → NamedCell
seen_cell octets moment value = named_cell octets moment (record { slot = 0; generation = 0 }) value

-- The view of the card after a judged cell.
abbrev pub judged_seen : Seen → Vc → SeenConnection → NamedCell → Seen
judged_seen s vc connection cell = record s { connections = with_at s.connections vc (record connection { history = connection.history ++ cell ∷ [] }) }

-- The world after a cell with this value has entered and was picked.
abbrev pub picked_world : World → List ℕ → ℕ → Vc → Connection → ℕ → World
picked_world before octets moment vc connection value =
    with_port (with_port before 0 (entered octets moment)) 0 (picked (picking_of octets moment vc connection value))

-- What a cell leads to: its connection is not found; or it is found, its program gives a value, and the cell is not judged for this reason;
-- or it is judged.
pub data CellCase (before after : World) (moment : ℕ) (octets : List ℕ) (given : Answer) : Type 0 where
  missed : connection_in before.connections (vc_of before.shape.side octets) ≡ None → given ≡ answer.NoConnection → seen after ≡ seen before
      → CellCase before after moment octets given
  refused : (connection : Connection) → connection_in before.connections (vc_of before.shape.side octets) ≡ Some connection
      → (code : List Instr) → code_in before.loaded connection.program ≡ Some code → (value : ℕ) → Gives code octets value
      → cell_refusal before connection moment ≡ Some given → seen after ≡ seen before → CellCase before after moment octets given
  judged : (connection : Connection) → connection_in before.connections (vc_of before.shape.side octets) ≡ Some connection
      → (code : List Instr) → code_in before.loaded connection.program ≡ Some code → (value : ℕ) → Gives code octets value
      → cell_refusal before connection moment ≡ None
      → given ≡ judged_answer (picked_world before octets moment (vc_of before.shape.side octets) connection value)
      (picking_of octets moment (vc_of before.shape.side octets) connection value) connection
      → seen after ≡ judged_seen (seen before) (vc_of before.shape.side octets) (seen_connection before.loaded connection) (seen_cell octets moment value)
      → CellCase before after moment octets given

-- The result of a cell, the invariant after it, with the same programs, and one more verdict at most.
pub record CellStep (met : ℕ) (before after : World) (moment : ℕ) (octets : List ℕ) (given : Answer) : Type 0 where
  pub case : CellCase before after moment octets given
  pub holds : HoldsAfter (met + 1) after
  pub same : after.loaded ≡ before.loaded
  pub counted : (most : ℕ) → JudgedAtMost most before → JudgedAtMost (most + 1) after

-- A world that differs only in its ports.
with-ports : (met : ℕ) (before : World) (ports : List PortState) → HoldsAfter met before → HoldsAfter (met + 1) (record before { ports = ports })
with-ports met before ports invariant =
    let later = holds-later met before invariant in
    record { programs = later.programs; connections = later.connections }

-- Without a verdict, no line has more.
none-judged : (before after : World) → after.verdicts ≡ before.verdicts → (most : ℕ) → JudgedAtMost most before → JudgedAtMost (most + 1) after
none-judged before after same most counted = judged-later most before after counted same

counted-more : (verdicts : ℕ → List Verdict) (line : ℕ) (verdict : Verdict) (other met : ℕ) → length (verdicts other) ≤ met
    → length (with_verdict verdicts line verdict other) ≤ met + 1
counted-more verdicts line verdict other met counted =
    let choice : (b : Bool) → length (if b then verdicts other ++ verdict ∷ [] else verdicts other) ≤ met + 1 = elim [
      | true ↦ omega (arith, length-append (verdicts other) (verdict ∷ []))
      | false ↦ omega arith
    ] in
    choice (other == line)

-- A cell without a connection.
missed-step : (met : ℕ) (before after : World) (moment : ℕ) (octets : List ℕ) (given : Answer) → HoldsAfter met before → PortIs before outside
    → connection_in before.connections (vc_of before.shape.side octets) ≡ None → given ≡ answer.NoConnection
    → after ≡ with_port (with_port before 0 (entered octets moment)) 0 outside → CellStep met before after moment octets given
missed-step met before after moment octets given invariant free none is world =
    let back = put-back before.ports (entered octets moment) free in
    record {
      case = missed none is (ap seen world ∙ (λ i. record (seen before) { ports = back i }));
      holds = subst (λ (w : World). HoldsAfter (met + 1) w) (sym world) (with-ports met before _ invariant);
      same = ap (λ (w : World). w.loaded) world;
      counted = none-judged before after (ap (λ (w : World). w.verdicts) world);
    }

-- The view after a judgement.
judged-shown : (before : World) (vc : Vc) (connection : Connection) (octets : List ℕ) (moment value : ℕ) → PortIs before outside
    → seen (judged_world (picked_world before octets moment vc connection value) 0 (picking_of octets moment vc connection value) connection)
    ≡ judged_seen (seen before) vc (seen_connection before.loaded connection) (seen_cell octets moment value)
judged-shown before vc connection octets moment value free =
    let cell = named_cell octets moment connection.program value in
    let pushed = map-push connection.history cell in
    let connections = with-seen before.loaded before.connections vc (with_cell connection cell)
    ∙ (λ i. with_at (seen_connections before.loaded before.connections) vc (record (seen_connection before.loaded connection) { history = pushed i })) in
    let back = put-back_twice before.ports (entered octets moment) (picked (picking_of octets moment vc connection value)) free in
    λ i. record (seen before) { connections = connections i; ports = back i }

judged-holds : (met : ℕ) (before : World) (vc : Vc) (connection : Connection) (octets : List ℕ) (moment value : ℕ) → HoldsAfter met before
    → connection_in before.connections vc ≡ Some connection
    → HoldsAfter (met + 1) (judged_world (picked_world before octets moment vc connection value) 0 (picking_of octets moment vc connection value) connection)
judged-holds met before vc connection octets moment value invariant found =
    let cell = named_cell octets moment connection.program value in
    let known = all-found (λ one. 0 < number_in before.loaded one.program) before.connections vc connection invariant.connections.known found in
    let later = holds-later met before invariant in
    record {
      programs = later.programs;
      connections = connections-changed before.shape.lines before.loaded before.connections vc connection (with_cell connection cell) invariant.connections found refl known;
    }

judged-counted : (before after : World) (octets : List ℕ) (moment value : ℕ) (connection : Connection)
    → after ≡ judged_world (picked_world before octets moment (vc_of before.shape.side octets) connection value) 0
    (picking_of octets moment (vc_of before.shape.side octets) connection value) connection
    → (most : ℕ) → JudgedAtMost most before → JudgedAtMost (most + 1) after
judged-counted before after octets moment value connection world most counted =
    let cell = named_cell octets moment connection.program value in
    subst (λ (w : World). JudgedAtMost (most + 1) w) (sym world)
    (λ line. counted-more before.verdicts connection.line (verdict_on connection cell) line most (counted line))

-- A cell whose connection is found.
found-step : (met : ℕ) (before after : World) (moment : ℕ) (octets : List ℕ) (given : Answer) → HoldsAfter met before → PortIs before outside
    → (connection : Connection) → connection_in before.connections (vc_of before.shape.side octets) ≡ Some connection
    → (code : List Instr) → code_in before.loaded connection.program ≡ Some code → (value : ℕ) → Gives code octets value
    → JudgeCase (picked_world before octets moment (vc_of before.shape.side octets) connection value)
    (picking_of octets moment (vc_of before.shape.side octets) connection value) connection (Answered given) after
    → CellStep met before after moment octets given
found-step met before after moment octets given invariant free connection found code named value gives judging =
    let vc = vc_of before.shape.side octets in
    elim judging [
      | judged_so allowed answers world ↦
          let is : given ≡ judged_answer (picked_world before octets moment vc connection value) (picking_of octets moment vc connection value) connection = cc in
          record {
            case = judged connection found code named value gives allowed is (ap seen world ∙ judged-shown before vc connection octets moment value free);
            holds = subst (λ (w : World). HoldsAfter (met + 1) w) (sym world) (judged-holds met before vc connection octets moment value invariant found);
            same = ap (λ (w : World). w.loaded) world;
            counted = judged-counted before after octets moment value connection world;
          }
      | refused_so other why answers world ↦
          let is : other ≡ given = cc in
          let back = put-back_twice before.ports (entered octets moment) (picked (picking_of octets moment vc connection value)) free in
          record {
            case = refused connection found code named value gives (why ∙ ap (λ (a : Answer). Some a) is) (ap seen world ∙ (λ i. record (seen before) { ports = back i }));
            holds = subst (λ (w : World). HoldsAfter (met + 1) w) (sym world) (with-ports met before _ invariant);
            same = ap (λ (w : World). w.loaded) world;
            counted = none-judged before after (ap (λ (w : World). w.verdicts) world);
          }
    ]

-- The answer to a cell that has entered.
answered-step : (met : ℕ) (before after : World) (moment : ℕ) (octets : List ℕ) (given : Answer) → HoldsAfter met before → PortIs before outside
    → IsAnswered (with_port before 0 (entered octets moment)) given after → CellStep met before after moment octets given
answered-step met before after moment octets given invariant free (inl picks) =
    let came = with_port before 0 (entered octets moment) in
    elim (pick-case came after octets moment (Answered given) (put-there before.ports outside (entered octets moment) free) picks) [
      | missed_so none answers world ↦
          let is : given ≡ answer.NoConnection = cc in
          missed-step met before after moment octets given invariant free none is world
      | found_so connection found code named value gives answers world ↦ absurd (cc)
    ]
answered-step met before after moment octets given invariant free (inr judges) =
    let came = with_port before 0 (entered octets moment) in
    let entering = put-there before.ports outside (entered octets moment) free in
    elim (pick-case came judges.0 octets moment Picked entering judges.1) [
      | missed_so none answers world ↦ absurd (cc)
      | found_so connection found code named value gives answers world ↦
          let picking = picking_of octets moment (vc_of before.shape.side octets) connection value in
          let there = put-there came.ports (entered octets moment) (picked picking) entering in
          let judging = subst (λ (w : World). WorldStep w (Judge 0) (Answered given) after) world judges.2 in
          found-step met before after moment octets given invariant free connection found code named value gives
          (judge-case (with_port came 0 (picked picking)) after picking connection (Answered given) there found refl judging)
    ]

-- A cell arrives.
pub cell-step : (met : ℕ) (before after : World) (moment : ℕ) (octets : List ℕ) (given : Answer) → HoldsAfter met before → PortIs before outside
    → Arrives before octets moment given after → CellStep met before after moment octets given
cell-step met before after moment octets given invariant free arrives =
    let is = entered-as before arrives.0 octets moment free arrives.1 in
    answered-step met before after moment octets given invariant free (subst (λ (w : World). IsAnswered w given after) is arrives.2)
