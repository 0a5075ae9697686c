-- What the arrival of a cell leaves of its connection.
use Rattle.std.proofs.Common.{◌≡◌, ◌≢◌, ◌≤◌, ◌⊎◌, ◌^◌, ◌==◌, ℕ, inl, inr, Bool, true, false, if◌then◌else◌, List, [], ◌∷◌, ◌++◌, length, nat_le, nat_lt, Option, Some, None, slice_get, option_map, refl, sym, ap, ◌∙◌, subst, arith}
use Rattle.std.proofs.lemmas.Bool.Decides.{nat_tests}
use Rattle.std.specs.Prelude.{is_none, slice_set}
use Rattle.std.specs.Option.{MatchOption}
use Rattle.card_core.specs.Refusals.{cell_refusal, enter_refusal, judge_refusal, missing_fault, pick_refusal, picking_refusal}
use Rattle.card_core.specs.Steps.{Enters, FindsNoMemory, IsRefused, Judges, Picks, WorldStep, cell_of_picking, judged_answer, left_by_judge, left_by_pick, picking_of, with_cell}
use Rattle.card_core.specs.World.{Connection, Picking, PortState, World, connection_in, entered, kept_cells, outside, picked, with_connection, with_port}
use Rattle.card_core.specs.declared.answer.Answer.{Answer}
use Rattle.card_core.specs.declared.answer.Answer.TheVariants as answer
use Rattle.card_core.specs.declared.reply.Reply.{Reply}
use Rattle.card_core.specs.declared.reply.Reply.TheVariants.{Entered, Picked, Answered, Refused}
use Rattle.card_core.specs.declared.shape.Shape.{Shape}
use Rattle.card_core.specs.declared.step.Step.TheVariants.{Enter, Pick, Judge, Cut}
use Rattle.leaky.specs.declared.contract.Contract.{Contract}
use Rattle.line_record.specs.History.{NamedCell, empty_buckets, last_moment, verdict_after}
use Rattle.upc_cell.proofs.Public.{vc_itself}
use Rattle.upc_cell.specs.Connection.{vc_of}
use Rattle.upc_cell.specs.Header.{has_low_priority}
use Rattle.upc_cell.specs.declared.vc.Vc.{Vc}
use Rattle.cmd_run.specs.RunText.{Card, IsAnswered, IsLed}
use Rattle.cmd_run.specs.inner.CardSteps.{desk-cases}
use Rattle.cmd_run.specs.inner.PortZero.{PortIs}
use Rattle.cmd_run.specs.inner.RunLaws.{cut-led}
use Rattle.cmd_setups.specs.CellsTaken.{MayBeCut, TakesCell, TakesCellWithRoom, connection_of_cell}
use Rattle.cmd_setups.specs.inner.ExcessLeft.{LeavesConnection}

-- A state that is written to place 0 is there.
pub written : (states : List PortState) (old new : PortState) → slice_get states 0 ≡ Some old → slice_get (slice_set states 0 new) 0 ≡ Some new
written [] old new e = cc
written (state ∷ states) old new e = refl

-- The connection that was put in is found.
pub put_found : (connections : List (Vc × Connection)) (vc : Vc) (connection : Connection) → connection_in (with_connection connections vc connection) vc ≡ Some connection
put_found connections vc connection = rw (vc_itself vc) refl

-- A cell enters the port.
pub enters : (before after : World) (cell : List ℕ) (moment : ℕ) (reply : Reply) → PortIs before outside
    → WorldStep before (Enter 0 cell moment) reply after → after ≡ with_port before 0 (entered cell moment)
enters before after cell moment reply free step =
    let Cases : Option PortState → Type 0 = λ o. MatchOption (enter_refusal o)
    (Enters before 0 cell moment reply after ⊎ FindsNoMemory before (Enter 0 cell moment) reply after)
    (λ refused. IsRefused before (Enter 0 cell moment) refused reply after) in
    let found : Enters before 0 cell moment reply after ⊎ FindsNoMemory before (Enter 0 cell moment) reply after = subst Cases free step in
    elim found [
      | inl goes ↦ goes.world
      | inr lacks ↦ let no = lacks.answer in cc
    ]

-- A picked cell is the one that entered.
pub record PicksFrom (before : World) (cell : List ℕ) (after : World) : Type 0 where
  pub picking : Picking
  pub named : picking.vc ≡ vc_of before.shape.side cell
  pub same : picking.cell ≡ cell
  pub world : after ≡ with_port before 0 (picked picking)

-- A pick answers with a reason, or picks the cell. It leaves the connections as they are.
abbrev PickLeaves : World → List ℕ → Reply → World → Type 0
PickLeaves before cell reply after =
    ((reply ≡ Answered answer.NoConnection) × (after.connections ≡ before.connections) × (after.shape ≡ before.shape))
    ⊎ ((reply ≡ Picked) × PicksFrom before cell after)

picks : (before after : World) (cell : List ℕ) (moment : ℕ) (reply : Reply) → PortIs before (entered cell moment)
    → WorldStep before (Pick 0) reply after → PickLeaves before cell reply after
picks before after cell moment reply had step =
    let Cases : Option PortState → Type 0 = λ o. MatchOption (pick_refusal before o)
    (Picks before 0 reply after ⊎ FindsNoMemory before (Pick 0) reply after) (λ refused. IsRefused before (Pick 0) refused reply after) in
    by (is_none (connection_in before.connections (vc_of before.shape.side cell))) (subst Cases had step)
  where
    by : (b : Bool) → MatchOption (if b then Some (Answered answer.NoConnection) else None)
        (Picks before 0 reply after ⊎ FindsNoMemory before (Pick 0) reply after) (λ refused. IsRefused before (Pick 0) refused reply after)
        → PickLeaves before cell reply after
    by true is =
        let world : after ≡ with_port before 0 outside = is.world ∙ ap (left_by_pick before 0) had in
        inl (is.answer, ap (λ (w : World). w.connections) world, ap (λ (w : World). w.shape) world)
    by false (inl goes) =
        let one : Some (entered cell moment) ≡ Some (entered goes.cell goes.moment) = sym had ∙ goes.had in
        let same : goes.cell ≡ cell = cc in
        let picking = picking_of goes.cell goes.moment (vc_of before.shape.side goes.cell) goes.connection goes.value in
        inr (goes.answer, record { picking = picking; named = ap (vc_of before.shape.side) same; same = same; world = goes.world })
    by false (inr lacks) = let no = lacks.answer in cc

-- An answer without a verdict.
abbrev Silent : Answer → Type 0
Silent given = (one other : List (Vc × Connection)) (vc : Vc) (clp : Bool) → LeavesConnection one other vc clp given

-- Each reason of a chain has a property if all have it.
chained : (P : Answer → Type 0) (test : Bool) (here : Answer) (rest : Option Answer) (given : Answer) → P here → ((other : Answer) → rest ≡ Some other → P other)
    → (if test then Some here else rest) ≡ Some given → P given
chained P true here rest given is later e = subst P (let same : Some here ≡ Some given = e in cc) is
chained P false here rest given is later e = later given e

last_reason : (P : Answer → Type 0) (here : Answer) (given : Answer) → P here → Some here ≡ Some given → P given
last_reason P here given is e = subst P (let same : Some here ≡ Some given = e in cc) is

cell_reason : (P : Answer → Type 0) → P answer.MomentTooLate → ((last : ℕ) → P (answer.MomentBack last)) → P answer.JournalFull
    → (world : World) (connection : Connection) (moment : ℕ) (given : Answer) → cell_refusal world connection moment ≡ Some given → P given
cell_reason P late back full world connection moment given =
    chained P (nat_lt (2 ^ 62) moment) answer.MomentTooLate _ given late (λ later.
    chained P (nat_lt moment (last_moment 0 connection.history)) (answer.MomentBack (last_moment 0 connection.history)) _ later (back (last_moment 0 connection.history)) (λ third.
    chained P (nat_le world.shape.journal (length (kept_cells connection))) answer.JournalFull _ third full (λ fourth.
    chained P (nat_le (2 ^ 62) (length (world.verdicts connection.line))) answer.JournalFull None fourth full (λ fifth no. cc))))

-- Each reason for which a picked cell isn't judged has a property if these have it.
pub refusal_reason : (P : Answer → Type 0) → P answer.MomentTooLate → ((last : ℕ) → P (answer.MomentBack last)) → P answer.JournalFull → P answer.Released
    → (world : World) (picking : Picking) (found : Option Connection) (given : Answer) → picking_refusal world picking found ≡ Some given → P given
refusal_reason P late back full gone world picking None given e = last_reason P answer.Released given gone e
refusal_reason P late back full gone world picking (Some connection) given e = by (connection.incarnation == picking.incarnation) e
  where
    by : (b : Bool) → (if b then cell_refusal world connection picking.moment else Some answer.Released) ≡ Some given → P given
    by true e = cell_reason P late back full world connection picking.moment given e
    by false e = last_reason P answer.Released given gone e

refusal_silent : (world : World) (picking : Picking) (found : Option Connection) (given : Answer) → picking_refusal world picking found ≡ Some given → Silent given
refusal_silent =
    refusal_reason Silent (λ one other vc clp. tt) (λ last one other vc clp. tt) (λ one other vc clp. tt) (λ one other vc clp. tt)

-- A cell that isn't refused comes no earlier than the last one.
passes_test : (test : Bool) (here : Answer) (rest : Option Answer) → (if test then Some here else rest) ≡ None → (test ≡ false) × (rest ≡ None)
passes_test true here rest e = cc
passes_test false here rest e = (refl, e)

cell_forward : (world : World) (connection : Connection) (moment : ℕ) → cell_refusal world connection moment ≡ None → last_moment 0 connection.history ≤ moment
cell_forward world connection moment e =
    let one = passes_test (nat_lt (2 ^ 62) moment) answer.MomentTooLate _ e in
    let two = passes_test (nat_lt moment (last_moment 0 connection.history)) (answer.MomentBack (last_moment 0 connection.history)) _ one.1 in
    let test = two.0 in grind (arith, nat_tests, test)

refusal_forward : (world : World) (picking : Picking) (connection : Connection) → picking_refusal world picking (Some connection) ≡ None
    → last_moment 0 connection.history ≤ picking.moment
refusal_forward world picking connection e = by (connection.incarnation == picking.incarnation) e
  where
    by : (b : Bool) → (if b then cell_refusal world connection picking.moment else Some answer.Released) ≡ None → last_moment 0 connection.history ≤ picking.moment
    by true e = cell_forward world connection picking.moment e
    by false e = cc

-- An answer without a verdict leaves the connections as they are. One with a verdict adds the cell to its connection.
abbrev Leaves : World → World → Vc → Bool → Answer → Type 0
Leaves before after vc clp given =
    (Silent given × (after.connections ≡ before.connections) × (after.shape ≡ before.shape))
    ⊎ (LeavesConnection before.connections after.connections vc clp given × (given ≢ answer.JournalFull))

judges_as : (before after : World) (picking : Picking) (given : Answer) → PortIs before (picked picking)
    → WorldStep before (Judge 0) (Answered given) after → Leaves before after picking.vc (has_low_priority picking.cell) given
judges_as before after picking given had step =
    let Cases : Option PortState → Type 0 = λ o. MatchOption (judge_refusal before o)
    (Judges before 0 (Answered given) after ⊎ FindsNoMemory before (Judge 0) (Answered given) after)
    (λ refused. IsRefused before (Judge 0) refused (Answered given) after) in
    by (picking_refusal before picking (connection_in before.connections picking.vc)) refl (subst Cases had step)
  where
    by : (found : Option Answer) → picking_refusal before picking (connection_in before.connections picking.vc) ≡ found
        → MatchOption (option_map Answered found)
        (Judges before 0 (Answered given) after ⊎ FindsNoMemory before (Judge 0) (Answered given) after)
        (λ refused. IsRefused before (Judge 0) refused (Answered given) after)
        → Leaves before after picking.vc (has_low_priority picking.cell) given
    by None e (inl goes) =
        let one : Some (picked picking) ≡ Some (picked goes.picking) = sym had ∙ goes.had in
        let same : picking ≡ goes.picking = cc in
        let same_answer : Answered given ≡ Answered (judged_answer before goes.picking goes.connection) = goes.answer in
        let is : given ≡ judged_answer before goes.picking goes.connection = cc in
        let free : picking_refusal before goes.picking (Some goes.connection) ≡ None =
        sym (ap (picking_refusal before goes.picking) goes.found)
        ∙ subst (λ (p : Picking). picking_refusal before p (connection_in before.connections p.vc) ≡ None) same e in
        let cell = cell_of_picking goes.picking in
        let judged : LeavesConnection before.connections after.connections goes.picking.vc (has_low_priority goes.picking.cell) (judged_answer before goes.picking goes.connection) =
        record {
          connection = goes.connection;
          found = goes.found;
          next = with_cell goes.connection cell;
          left = ap (λ (w : World). connection_in w.connections goes.picking.vc) goes.world ∙ put_found before.connections goes.picking.vc (with_cell goes.connection cell);
          cell = cell;
          at = refl;
          valued = refl;
          priority = refl;
          contracts = refl;
          history = refl;
          judged = refl;
          forward = refusal_forward before goes.picking goes.connection free;
        } in
        let LeavesBy : Picking → Answer → Type 0 = λ p a. LeavesConnection before.connections after.connections p.vc (has_low_priority p.cell) a in
        inr (
          subst (λ (p : Picking). LeavesBy p given) (sym same) (subst (λ (a : Answer). LeavesBy goes.picking a) (sym is) judged),
          λ full. let no : judged_answer before goes.picking goes.connection ≡ answer.JournalFull = sym is ∙ full in cc,
        )
    by None e (inr lacks) = let no = lacks.answer in cc
    by (Some reason) e is =
        let same_answer : Answered given ≡ Answered reason = is.answer in
        let same : reason ≡ given = cc in
        let world : after ≡ with_port before 0 outside = is.world ∙ ap (left_by_judge before 0) had in
        inl (
          subst Silent same (refusal_silent before picking (connection_in before.connections picking.vc) reason e),
          ap (λ (w : World). w.connections) world,
          ap (λ (w : World). w.shape) world,
        )

-- A cell that takes all its steps.
answered_leaves : (before entering after : World) (cell : List ℕ) (moment : ℕ) (given : Answer) → PortIs before outside
    → entering ≡ with_port before 0 (entered cell moment) → IsAnswered entering given after
    → Leaves before after (vc_of before.shape.side cell) (has_low_priority cell) given
answered_leaves before entering after cell moment given free came answered = by answered
  where
    had : PortIs entering (entered cell moment)
    had = subst (λ (w : World). PortIs w (entered cell moment)) (sym came) (written before.ports outside (entered cell moment) free)

    listed : entering.connections ≡ before.connections
    listed = ap (λ (w : World). w.connections) came

    shaped : entering.shape ≡ before.shape
    shaped = ap (λ (w : World). w.shape) came

    found : (middle : World) → PicksFrom entering cell middle → WorldStep middle (Judge 0) (Answered given) after
        → Leaves before after (vc_of before.shape.side cell) (has_low_priority cell) given
    found middle from judged =
        let there : PortIs middle (picked from.picking) =
        subst (λ (w : World). PortIs w (picked from.picking)) (sym from.world) (written entering.ports (entered cell moment) (picked from.picking) had) in
        let listed' : middle.connections ≡ before.connections = ap (λ (w : World). w.connections) from.world ∙ listed in
        let shaped' : middle.shape ≡ before.shape = ap (λ (w : World). w.shape) from.world ∙ shaped in
        let named : from.picking.vc ≡ vc_of before.shape.side cell = from.named ∙ ap (λ (shape : Shape). vc_of shape.side cell) shaped in
        elim (judges_as middle after from.picking given there judged) [
          | inl quiet ↦ inl (quiet.0, quiet.1 ∙ listed', quiet.2 ∙ shaped')
          | inr leaves ↦ inr (
            subst (λ (vc : Vc). LeavesConnection before.connections after.connections vc (has_low_priority cell) given) named
                (subst (λ (octets : List ℕ). LeavesConnection before.connections after.connections from.picking.vc (has_low_priority octets) given) from.same
                (subst (λ (list : List (Vc × Connection)). LeavesConnection list after.connections from.picking.vc (has_low_priority from.picking.cell) given) listed' leaves.0)),
            leaves.1,
          )
        ]

    by : IsAnswered entering given after → Leaves before after (vc_of before.shape.side cell) (has_low_priority cell) given
    by (inl pick) = elim (picks entering after cell moment (Answered given) had pick) [
      | inl lacks ↦
          let same_answer : Answered given ≡ Answered answer.NoConnection = lacks.0 in
          let same : answer.NoConnection ≡ given = cc in
          inl (subst Silent same (λ one other vc clp. tt), lacks.1 ∙ listed, lacks.2 ∙ shaped)
      | inr goes ↦ let no = goes.0 in cc
    ]
    by (inr judges) = elim (picks entering judges.0 cell moment Picked had judges.1) [
      | inl lacks ↦ let no = lacks.0 in cc
      | inr goes ↦ found judges.0 goes.1 judges.2
    ]

arrival_leaves : (before after : Card) (cell : List ℕ) (moment : ℕ) (given : Answer) → IsLed before → TakesCell before cell moment given after
    → Leaves before.world after.world (connection_of_cell before cell) (has_low_priority cell) given
arrival_leaves before after cell moment given led takes =
    answered_leaves before.world takes.arrived.0 after.world cell moment given led.free
    (enters before.world takes.arrived.0 cell moment Entered led.free takes.arrived.1) takes.arrived.2

-- A cut leaves the contracts and the history of each connection as they are.
abbrev CutKeeps : World → Vc → World → Type 0
CutKeeps before vc after = (after.shape ≡ before.shape) × ((next : Connection) → connection_in after.connections vc ≡ Some next
    → (connection : Connection) × (connection_in before.connections vc ≡ Some connection) × (next.contracts ≡ connection.contracts) × (next.history ≡ connection.history))

unchanged_keeps : (before after : World) (vc : Vc) → after ≡ before → CutKeeps before vc after
unchanged_keeps before after vc same = (
  ap (λ (w : World). w.shape) same,
  λ next found. (next, subst (λ (w : World). connection_in w.connections vc ≡ Some next) same found, refl, refl),
)

cut_keeps : (before after : World) (vc : Vc) (reply : Reply) → WorldStep before (Cut vc) reply after → CutKeeps before vc after
cut_keeps before after vc reply =
    desk-cases (CutKeeps before vc after) (λ fault. Refused fault) (missing_fault before vc) before after (Cut vc) reply
    (λ s. (
      ap (λ (w : World). w.shape) s.world,
      λ next found.
          let handed : Connection = record s.connection { returned = length s.connection.history } in
          let here : Some handed ≡ Some next =
          sym (ap (λ (w : World). connection_in w.connections vc) s.world ∙ put_found before.connections vc handed) ∙ found in
          let same : next ≡ handed = cc in
          (s.connection, s.found, ap (λ (c : Connection). c.contracts) same, ap (λ (c : Connection). c.history) same),
    ))
    (λ l. unchanged_keeps before after vc l.world)
    (λ fault r. unchanged_keeps before after vc r.world)

pub cut_shaped : (before after : World) (vc : Vc) (reply : Reply) → WorldStep before (Cut vc) reply after → after.shape ≡ before.shape
cut_shaped before after vc reply stepped = (cut_keeps before after vc reply stepped).0

-- What a cell leaves after a cut is what it would leave without it.
cut_leaves : (before middle : World) (after : List (Vc × Connection)) (vc : Vc) (clp : Bool) (given : Answer) → CutKeeps before vc middle
    → LeavesConnection middle.connections after vc clp given → LeavesConnection before.connections after vc clp given
cut_leaves before middle after vc clp (answer.Judged line number moment value program verdict leaving) keeps judges =
    let was = keeps.1 judges.connection judges.found in
    record {
      connection = was.0;
      found = was.1;
      next = judges.next;
      left = judges.left;
      cell = judges.cell;
      at = judges.at;
      valued = judges.valued;
      priority = judges.priority;
      contracts = judges.contracts ∙ was.2;
      history = judges.history ∙ ap (λ (cells : List NamedCell). cells ++ judges.cell ∷ []) was.3;
      judged = judges.judged ∙ ap (λ (contracts : List Contract). verdict_after contracts empty_buckets judges.connection.history judges.cell) was.2
          ∙ ap (λ (cells : List NamedCell). verdict_after was.0.contracts empty_buckets cells judges.cell) was.3;
      forward = subst (λ (cells : List NamedCell). last_moment 0 cells ≤ moment) was.3 judges.forward;
    }
cut_leaves before middle after vc clp answer.NoConnection keeps silent = tt
cut_leaves before middle after vc clp answer.Released keeps silent = tt
cut_leaves before middle after vc clp answer.Stale keeps silent = tt
cut_leaves before middle after vc clp (answer.MomentBack last) keeps silent = tt
cut_leaves before middle after vc clp answer.MomentTooLate keeps silent = tt
cut_leaves before middle after vc clp answer.JournalFull keeps silent = tt
cut_leaves before middle after vc clp answer.NoMemory keeps silent = tt

taken_leaves : (before after : Card) (cell : List ℕ) (moment : ℕ) (given : Answer) → IsLed before → TakesCell before cell moment given after
    → LeavesConnection before.world.connections after.world.connections (connection_of_cell before cell) (has_low_priority cell) given
taken_leaves before after cell moment given led takes = elim (arrival_leaves before after cell moment given led takes) [
  | inl quiet ↦ quiet.0 before.world.connections after.world.connections (connection_of_cell before cell) (has_low_priority cell)
  | inr leaves ↦ leaves.0
]

-- A cut leaves the shape, and what a cell leaves after it is what it would leave without it.
ready_leaves : (before ready after : Card) (cell : List ℕ) (moment : ℕ) (given : Answer) → IsLed before → MayBeCut before (connection_of_cell before cell) ready
    → TakesCell ready cell moment given after
    → LeavesConnection before.world.connections after.world.connections (connection_of_cell before cell) (has_low_priority cell) given
ready_leaves before ready after cell moment given led (inl same) takes =
    taken_leaves before after cell moment given led (subst (λ (card : Card). TakesCell card cell moment given after) same takes)
ready_leaves before ready after cell moment given led (inr (line, cuts)) takes =
    let vc = connection_of_cell before cell in
    let keeps = cut_keeps before.world ready.world vc cuts.reply cuts.stepped in
    let last = taken_leaves ready after cell moment given (cut-led before ready vc line led cuts) takes in
    cut_leaves before.world ready.world after.world.connections vc (has_low_priority cell) given keeps
    (subst (λ (shape : Shape). LeavesConnection ready.world.connections after.world.connections (vc_of shape.side cell) (has_low_priority cell) given) keeps.0 last)

-- A cell, with a cut before it or without one.
pub room_leaves : (before after : Card) (cell : List ℕ) (moment : ℕ) (given : Answer) → IsLed before → TakesCellWithRoom before cell moment given after
    → LeavesConnection before.world.connections after.world.connections (connection_of_cell before cell) (has_low_priority cell) given
room_leaves before after cell moment given led takes = ready_leaves before takes.ready after cell moment given led takes.cuts takes.taken
