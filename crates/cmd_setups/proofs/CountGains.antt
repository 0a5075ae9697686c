-- What each step of the card adds to the tally of a connection.
use Rattle.std.proofs.Common.{◌≡◌, ◌⊎◌, inl, inr, ℕ, ◌+◌, ◌==◌, Bool, true, false, if◌then◌else◌, List, [], ◌∷◌, ◌++◌, map, Option, Some, None, option_map, refl, sym, ap, ◌∙◌, subst, arith}
use Rattle.std.proofs.lemmas.Bool.Decides.{nat_tests}
use Rattle.std.proofs.lemmas.Option.{same_Some}
use Rattle.std.specs.Option.{MatchOption}
use Rattle.std.specs.Prelude.{is_none}
use Rattle.card_core.proofs.Public.{worlds-sound}
use Rattle.card_core.specs.Refusals.{judge_refusal, missing_fault, pick_refusal, picking_refusal}
use Rattle.card_core.specs.Steps.{FindsNoMemory, IsRefused, Judges, Picks, WorldStep, cell_of_picking, judged_answer, left_by_judge, left_by_pick, picking_of, verdict_on, with_cell}
use Rattle.card_core.specs.World.{Connection, Picking, PortState, World, connection_in, entered, outside, picked, with_connection, with_port, with_verdict, without_connection}
use Rattle.card_core.specs.declared.answer.Answer.{Answer}
use Rattle.card_core.specs.declared.answer.Answer.TheVariants as answer
use Rattle.card_core.specs.declared.reply.Reply.{Reply}
use Rattle.card_core.specs.declared.reply.Reply.TheVariants.{Entered, Picked, Answered, Refused}
use Rattle.card_core.specs.declared.shape.Shape.{Shape}
use Rattle.card_core.specs.declared.step.Step.TheVariants.{Pick, Judge, Cut}
use Rattle.leaky.specs.declared.verdict.Verdict.{Verdict}
use Rattle.leaky.specs.declared.verdict.Verdict.TheVariants.{Pass as passes, Tag, Discard, Refuse}
use Rattle.line_record.proofs.Public.{cells_are_judged_in_turn}
use Rattle.line_record.specs.History.{NamedCell, empty_buckets, judged}
use Rattle.line_record.specs.Tally.{count_of, counted, nothing, tally_of}
use Rattle.line_record.specs.declared.entry.Entry.{Entry}
use Rattle.line_record.specs.declared.tally.Tally.{Tally}
use Rattle.upc_cell.proofs.Public.{vc_itself, vc_same}
use Rattle.upc_cell.specs.Connection.{is_same_vc, vc_of}
use Rattle.upc_cell.specs.declared.vc.Vc.{Vc}
use Rattle.cmd_run.specs.RunText.{Card, IsAnswered, IsLed}
use Rattle.cmd_run.specs.inner.CardSteps.{desk-cases}
use Rattle.cmd_run.specs.inner.PortZero.{PortIs}
use Rattle.cmd_run.specs.inner.RunLaws.{cut-led}
use Rattle.cmd_setups.specs.ConnectionCounts.{own_counts, own_verdicts}
use Rattle.cmd_setups.specs.Columns.{verdict_given}
use Rattle.cmd_setups.specs.CellsTaken.{MayBeCut, TakesCell, TakesCellWithRoom, connection_of_cell}
use Rattle.cmd_setups.proofs.LeftLemmas.{cut_shaped, enters, put_found, refusal_reason, written}

-- ---- counts

pub count_nothing : (verdict : Verdict) → count_of nothing verdict ≡ 0
count_nothing passes = refl
count_nothing Tag = refl
count_nothing Discard = refl
count_nothing Refuse = refl

pub count_more : (tally : Tally) (given verdict : Verdict) → count_of (counted tally given) verdict ≡ count_of tally verdict + count_of (counted nothing given) verdict
count_more tally passes passes = refl
count_more tally passes Tag = sym (omega arith)
count_more tally passes Discard = sym (omega arith)
count_more tally passes Refuse = sym (omega arith)
count_more tally Tag passes = sym (omega arith)
count_more tally Tag Tag = refl
count_more tally Tag Discard = sym (omega arith)
count_more tally Tag Refuse = sym (omega arith)
count_more tally Discard passes = sym (omega arith)
count_more tally Discard Tag = sym (omega arith)
count_more tally Discard Discard = refl
count_more tally Discard Refuse = sym (omega arith)
count_more tally Refuse passes = sym (omega arith)
count_more tally Refuse Tag = sym (omega arith)
count_more tally Refuse Discard = sym (omega arith)
count_more tally Refuse Refuse = refl

count_last : (verdicts : List Verdict) (given verdict : Verdict)
    → count_of (tally_of (verdicts ++ given ∷ [])) verdict ≡ count_of (tally_of verdicts) verdict + count_of (counted nothing given) verdict
count_last [] given verdict = let none = count_nothing verdict in omega (arith, none)
count_last (first ∷ verdicts) given verdict =
    let rest = count_last verdicts given verdict in
    let one = count_more (tally_of (verdicts ++ given ∷ [])) first verdict in
    let other = count_more (tally_of verdicts) first verdict in
    omega (arith, rest, one, other)

-- How many cells with a verdict an answer with this verdict adds to a connection, if the cell is of it.
abbrev pub added : Bool → Option Verdict → Verdict → ℕ
added false given verdict = 0
added true None verdict = 0
added true (Some given) verdict = count_of (counted nothing given) verdict

pub added_none : (own : Bool) (verdict : Verdict) → added own None verdict ≡ 0
added_none true verdict = refl
added_none false verdict = refl

-- ---- what a step adds to the counts of each connection's line

-- How many cells with a verdict the line of a connection had, and the connection itself.
abbrev pub count_on : World → Connection → Verdict → ℕ
count_on world connection verdict = count_of (tally_of (world.verdicts connection.line)) verdict

abbrev pub own_count : Connection → Verdict → ℕ
own_count connection verdict = count_of (own_counts connection) verdict

-- Each connection after the step was there before, on the same line. It counts one cell more, and so does its line, if the
-- answer has a verdict and is of it.
pub record Gain (before after : World) (here : Vc) (given : Option Verdict) (vc : Vc) (next : Connection) : Type 0 where
  pub connection : Connection
  pub found : connection_in before.connections vc ≡ Some connection
  pub line : next.line ≡ connection.line
  pub counts : (verdict : Verdict) → count_on after next verdict ≡ count_on before connection verdict + added (is_same_vc vc here) given verdict
  pub own : (verdict : Verdict) → own_count next verdict ≡ own_count connection verdict + added (is_same_vc vc here) given verdict

abbrev pub Gains : World → World → Vc → Option Verdict → Type 0
Gains before after here given = (vc : Vc) (next : Connection) → connection_in after.connections vc ≡ Some next → Gain before after here given vc next

-- A step without a verdict, and then one with this verdict or none.
joined : (before middle after : World) (here : Vc) (given : Option Verdict) → Gains before middle here None → Gains middle after here given → Gains before after here given
joined before middle after here given first second vc next found =
    let two = second vc next found in
    let one = first vc two.connection two.found in
    record {
      connection = one.connection;
      found = one.found;
      line = two.line ∙ one.line;
      counts = λ verdict.
          let a = two.counts verdict in
          let b = one.counts verdict in
          let none = added_none (is_same_vc vc here) verdict in
          omega (arith, a, b, none);
      own = λ verdict.
          let a = two.own verdict in
          let b = one.own verdict in
          let none = added_none (is_same_vc vc here) verdict in
          omega (arith, a, b, none);
    }

-- Nothing but a port changes.
pub port_gains : (before after : World) (state : PortState) (here : Vc) → after ≡ with_port before 0 state → Gains before after here None
port_gains before after state here same vc next found = record {
  connection = next;
  found = subst (λ (w : World). connection_in w.connections vc ≡ Some next) same found;
  line = refl;
  counts = λ verdict.
      let e = ap (λ (w : World). count_on w next verdict) same in
      let none = added_none (is_same_vc vc here) verdict in
      omega (arith, e, none);
  own = λ verdict. let none = added_none (is_same_vc vc here) verdict in omega (arith, none);
}

-- Lines of connections are apart.
abbrev pub LinesApart : List (Vc × Connection) → Type 0
LinesApart connections = (one other : Vc) (connection another : Connection) → connection_in connections one ≡ Some connection
    → connection_in connections other ≡ Some another → connection.line ≡ another.line → one ≡ other

pub without_others : (connections : List (Vc × Connection)) (vc other : Vc) → is_same_vc other vc ≡ false
    → connection_in (without_connection connections vc) other ≡ connection_in connections other
without_others [] vc other apart = refl
without_others (first ∷ connections) vc other apart = by (is_same_vc vc first.0) refl (without_others connections vc other apart)
  where
    by : (b : Bool) → is_same_vc vc first.0 ≡ b → connection_in (without_connection connections vc) other ≡ connection_in connections other
        → connection_in (if b then without_connection connections vc else first ∷ without_connection connections vc) other ≡ connection_in (first ∷ connections) other
    by true e rest =
        let away : is_same_vc other first.0 ≡ false = subst (λ (v : Vc). is_same_vc other v ≡ false) (vc_same vc first.0 e) apart in
        rest ∙ sym (ap (λ b. if b then Some first.1 else connection_in connections other) away)
    by false e rest = ap (λ (found : Option Connection). if is_same_vc other first.0 then Some first.1 else found) rest

pub put_others : (connections : List (Vc × Connection)) (vc other : Vc) (connection : Connection) → is_same_vc other vc ≡ false
    → connection_in (with_connection connections vc connection) other ≡ connection_in connections other
put_others connections vc other connection apart =
    ap (λ b. if b then Some connection else connection_in (without_connection connections vc) other) apart ∙ without_others connections vc other apart

verdicts_join : (one other : List Entry) → map (λ entry. entry.verdict) (one ++ other) ≡ map (λ entry. entry.verdict) one ++ map (λ entry. entry.verdict) other
verdicts_join [] other = refl
verdicts_join (entry ∷ one) other = ap (λ verdicts. entry.verdict ∷ verdicts) (verdicts_join one other)

-- One more cell of a connection has one more verdict.
own_grows : (connection : Connection) (cell : NamedCell) → own_verdicts (with_cell connection cell) ≡ own_verdicts connection ++ verdict_on connection cell ∷ []
own_grows connection cell =
    ap (λ (entries : List Entry). map (λ entry. entry.verdict) entries) (cells_are_judged_in_turn connection.contracts empty_buckets [] connection.history (cell ∷ []))
    ∙ verdicts_join (judged connection.contracts empty_buckets [] connection.history) (judged connection.contracts empty_buckets connection.history (cell ∷ []))

judged_gains : (before after : World) (picking : Picking) (connection : Connection) (verdict : Verdict) → LinesApart before.connections
    → connection_in before.connections picking.vc ≡ Some connection
    → after.connections ≡ with_connection before.connections picking.vc (with_cell connection (cell_of_picking picking))
    → after.verdicts ≡ with_verdict before.verdicts connection.line verdict → verdict ≡ verdict_on connection (cell_of_picking picking)
    → Gains before after picking.vc (Some verdict)
judged_gains before after picking connection given apart there lists counts right vc next found = by (is_same_vc vc picking.vc) refl
  where
    now : connection_in (with_connection before.connections picking.vc (with_cell connection (cell_of_picking picking))) vc ≡ Some next
    now = subst (λ (list : List (Vc × Connection)). connection_in list vc ≡ Some next) lists found

    counted_as : (verdict : Verdict)
        → count_on after next verdict ≡ count_of (tally_of (with_verdict before.verdicts connection.line given next.line)) verdict
    counted_as verdict = ap (λ (of : ℕ → List Verdict). count_of (tally_of (of next.line)) verdict) counts

    by : (b : Bool) → is_same_vc vc picking.vc ≡ b → Gain before after picking.vc (Some given) vc next
    by true e =
        let same = vc_same vc picking.vc e in
        let is : Some (with_cell connection (cell_of_picking picking)) ≡ Some next =
        sym (put_found before.connections picking.vc (with_cell connection (cell_of_picking picking)))
        ∙ subst (λ (v : Vc). connection_in (with_connection before.connections picking.vc (with_cell connection (cell_of_picking picking))) v ≡ Some next) same now in
        let line : next.line ≡ connection.line = ap (λ (c : Connection). c.line) (sym (same_Some (with_cell connection (cell_of_picking picking)) next is)) in
        let test : (next.line == connection.line) ≡ true = grind (arith, nat_tests, line) in
        record {
          connection = connection;
          found = subst (λ (v : Vc). connection_in before.connections v ≡ Some connection) (sym same) there;
          line = line;
          counts = λ verdict.
              counted_as verdict
              ∙ ap (λ b. count_of (tally_of (if b then before.verdicts next.line ++ given ∷ [] else before.verdicts next.line)) verdict) test
              ∙ count_last (before.verdicts next.line) given verdict
              ∙ ap (λ n. count_of (tally_of (before.verdicts n)) verdict + count_of (counted nothing given) verdict) line
              ∙ ap (λ b. count_on before connection verdict + added b (Some given) verdict) (sym e);
          own = λ verdict.
              ap (λ (c : Connection). own_count c verdict) (sym (same_Some (with_cell connection (cell_of_picking picking)) next is))
              ∙ ap (λ (verdicts : List Verdict). count_of (tally_of verdicts) verdict) (own_grows connection (cell_of_picking picking))
              ∙ ap (λ (v : Verdict). count_of (tally_of (own_verdicts connection ++ v ∷ [])) verdict) (sym right)
              ∙ count_last (own_verdicts connection) given verdict
              ∙ ap (λ b. own_count connection verdict + added b (Some given) verdict) (sym e);
        }
    by false e =
        let was = sym (put_others before.connections picking.vc vc (with_cell connection (cell_of_picking picking)) e) ∙ now in
        let test : (next.line == connection.line) ≡ false = other (next.line == connection.line) refl in
        record {
          connection = next;
          found = was;
          line = refl;
          counts = λ verdict.
              let same = counted_as verdict
              ∙ ap (λ b. count_of (tally_of (if b then before.verdicts next.line ++ given ∷ [] else before.verdicts next.line)) verdict) test in
              let none = ap (λ b. added b (Some given) verdict) e in
              omega (arith, same, none);
          own = λ verdict. let none = ap (λ b. added b (Some given) verdict) e in omega (arith, none);
        }
      where
        other : (b : Bool) → (next.line == connection.line) ≡ b → (next.line == connection.line) ≡ false
        other true same =
            let was = sym (put_others before.connections picking.vc vc (with_cell connection (cell_of_picking picking)) e) ∙ now in
            let line : next.line ≡ connection.line = grind (arith, nat_tests, same) in
            let vcs = apart vc picking.vc next connection was there line in
            let itself : is_same_vc vc vc ≡ false = subst (λ (v : Vc). is_same_vc vc v ≡ false) (sym vcs) e in
            let no : true ≡ false = sym (vc_itself vc) ∙ itself in
            cc
        other false same = same

-- ---- a cell

-- Only a judged cell has a verdict.
abbrev pub HasNone : Answer → Type 0
HasNone given = verdict_given given ≡ None

judge_gains : (before after : World) (picking : Picking) (given : Answer) → LinesApart before.connections → PortIs before (picked picking)
    → WorldStep before (Judge 0) (Answered given) after → Gains before after picking.vc (verdict_given given)
judge_gains before after picking given apart had step =
    let Cases : Option PortState → Type 0 = λ o. MatchOption (judge_refusal before o)
    (Judges before 0 (Answered given) after ⊎ FindsNoMemory before (Judge 0) (Answered given) after)
    (λ refused. IsRefused before (Judge 0) refused (Answered given) after) in
    by (picking_refusal before picking (connection_in before.connections picking.vc)) refl (subst Cases had step)
  where
    by : (found : Option Answer) → picking_refusal before picking (connection_in before.connections picking.vc) ≡ found
        → MatchOption (option_map Answered found)
        (Judges before 0 (Answered given) after ⊎ FindsNoMemory before (Judge 0) (Answered given) after)
        (λ refused. IsRefused before (Judge 0) refused (Answered given) after)
        → Gains before after picking.vc (verdict_given given)
    by None e (inl goes) =
        let one : Some (picked picking) ≡ Some (picked goes.picking) = sym had ∙ goes.had in
        let same : picking ≡ goes.picking = cc in
        let same_answer : Answered given ≡ Answered (judged_answer before goes.picking goes.connection) = goes.answer in
        let is : given ≡ judged_answer before goes.picking goes.connection = cc in
        let gains : Gains before after goes.picking.vc (Some (verdict_on goes.connection (cell_of_picking goes.picking))) =
        judged_gains before after goes.picking goes.connection (verdict_on goes.connection (cell_of_picking goes.picking)) apart goes.found
        (ap (λ (w : World). w.connections) goes.world) (ap (λ (w : World). w.verdicts) goes.world) refl in
        subst (λ (p : Picking). Gains before after p.vc (verdict_given given)) (sym same)
        (subst (λ (a : Answer). Gains before after goes.picking.vc (verdict_given a)) (sym is) gains)
    by None e (inr lacks) = let no = lacks.answer in cc
    by (Some reason) e is =
        let same_answer : Answered given ≡ Answered reason = is.answer in
        let same : reason ≡ given = cc in
        let world : after ≡ with_port before 0 outside = is.world ∙ ap (left_by_judge before 0) had in
        let none : HasNone reason =
        refusal_reason HasNone refl (λ last. refl) refl refl before picking (connection_in before.connections picking.vc) reason e in
        subst (λ (v : Option Verdict). Gains before after picking.vc v) (sym none ∙ ap verdict_given same) (port_gains before after outside picking.vc world)

-- A pick answers without a verdict, or picks the cell. It changes nothing but the port.
pub record PickGains (before : World) (cell : List ℕ) (reply : Reply) (after : World) : Type 0 where
  pub state : PortState
  pub world : after ≡ with_port before 0 state
  pub answered : (given : Answer) → reply ≡ Answered given → HasNone given
  pub picking : reply ≡ Picked → (picking : Picking) × (picking.vc ≡ vc_of before.shape.side cell) × (state ≡ picked picking)

pick_gains : (before after : World) (cell : List ℕ) (moment : ℕ) (reply : Reply) → PortIs before (entered cell moment)
    → WorldStep before (Pick 0) reply after → PickGains before cell reply after
pick_gains before after cell moment reply had step =
    let Cases : Option PortState → Type 0 = λ o. MatchOption (pick_refusal before o)
    (Picks before 0 reply after ⊎ FindsNoMemory before (Pick 0) reply after) (λ refused. IsRefused before (Pick 0) refused reply after) in
    by (is_none (connection_in before.connections (vc_of before.shape.side cell))) (subst Cases had step)
  where
    by : (b : Bool) → MatchOption (if b then Some (Answered answer.NoConnection) else None)
        (Picks before 0 reply after ⊎ FindsNoMemory before (Pick 0) reply after) (λ refused. IsRefused before (Pick 0) refused reply after)
        → PickGains before cell reply after
    by true is = record {
      state = outside;
      world = is.world ∙ ap (left_by_pick before 0) had;
      answered = λ given e.
          let one : Answered answer.NoConnection ≡ Answered given = sym is.answer ∙ e in
          let same : answer.NoConnection ≡ given = cc in
          sym (ap verdict_given same);
      picking = λ e. let no : Answered answer.NoConnection ≡ Picked = sym is.answer ∙ e in cc;
    }
    by false (inl goes) =
        let one : Some (entered cell moment) ≡ Some (entered goes.cell goes.moment) = sym had ∙ goes.had in
        let same : goes.cell ≡ cell = cc in
        let picking = picking_of goes.cell goes.moment (vc_of before.shape.side goes.cell) goes.connection goes.value in
        record {
          state = picked picking;
          world = goes.world;
          answered = λ given e. let no : Picked ≡ Answered given = sym goes.answer ∙ e in cc;
          picking = λ e. (picking, ap (vc_of before.shape.side) same, refl);
        }
    by false (inr lacks) = let no = lacks.answer in cc

answered_gains : (before entering after : World) (cell : List ℕ) (moment : ℕ) (given : Answer) → LinesApart before.connections → PortIs before outside
    → entering ≡ with_port before 0 (entered cell moment) → IsAnswered entering given after
    → Gains before after (vc_of before.shape.side cell) (verdict_given given)
answered_gains before entering after cell moment given apart free came answered = by answered
  where
    here : Vc
    here = vc_of before.shape.side cell

    had : PortIs entering (entered cell moment)
    had = subst (λ (w : World). PortIs w (entered cell moment)) (sym came) (written before.ports outside (entered cell moment) free)

    entering_gains : Gains before entering here None
    entering_gains = port_gains before entering (entered cell moment) here came

    by : IsAnswered entering given after → Gains before after here (verdict_given given)
    by (inl pick) =
        let goes = pick_gains entering after cell moment (Answered given) had pick in
        joined before entering after here (verdict_given given) entering_gains
        (subst (λ (v : Option Verdict). Gains entering after here v) (sym (goes.answered given refl)) (port_gains entering after goes.state here goes.world))
    by (inr judges) =
        let middle = judges.0 in
        let goes = pick_gains entering middle cell moment Picked had judges.1 in
        let from = goes.picking refl in
        let there : PortIs middle (picked from.0) =
        subst (λ (s : PortState). PortIs middle s) from.2
        (subst (λ (w : World). PortIs w goes.state) (sym goes.world) (written entering.ports (entered cell moment) goes.state had)) in
        let listed : middle.connections ≡ before.connections = ap (λ (w : World). w.connections) goes.world ∙ ap (λ (w : World). w.connections) came in
        let named : from.0.vc ≡ here = from.1 ∙ ap (λ (w : World). vc_of w.shape.side cell) came in
        let last : Gains middle after here (verdict_given given) =
        subst (λ (v : Vc). Gains middle after v (verdict_given given)) named
        (judge_gains middle after from.0 given (subst LinesApart (sym listed) apart) there judges.2) in
        joined before entering after here (verdict_given given) entering_gains
        (joined entering middle after here (verdict_given given) (port_gains entering middle goes.state here goes.world) last)

pub lines_apart : (card : Card) → IsLed card → LinesApart card.world.connections
lines_apart card led = (worlds-sound led.shape led.log card.world led.leads).connections.lines_apart

pub taken_gains : (before after : Card) (cell : List ℕ) (moment : ℕ) (given : Answer) → IsLed before → TakesCell before cell moment given after
    → Gains before.world after.world (connection_of_cell before cell) (verdict_given given)
taken_gains before after cell moment given led takes =
    answered_gains before.world takes.arrived.0 after.world cell moment given (lines_apart before led) led.free
    (enters before.world takes.arrived.0 cell moment Entered led.free takes.arrived.1) takes.arrived.2

-- A cut adds nothing.
pub same_gains : (before after : World) (here : Vc) → after ≡ before → Gains before after here None
same_gains before after here same vc next found = record {
  connection = next;
  found = subst (λ (w : World). connection_in w.connections vc ≡ Some next) same found;
  line = refl;
  counts = λ verdict.
      let e = ap (λ (w : World). count_on w next verdict) same in
      let none = added_none (is_same_vc vc here) verdict in
      omega (arith, e, none);
  own = λ verdict. let none = added_none (is_same_vc vc here) verdict in omega (arith, none);
}

-- A connection is changed that keeps its line, its contracts and its cells.
pub changed_gains : (before after : World) (here : Vc) (connection changed : Connection) → connection_in before.connections here ≡ Some connection
    → after.connections ≡ with_connection before.connections here changed → after.verdicts ≡ before.verdicts
    → changed.line ≡ connection.line → own_counts changed ≡ own_counts connection
    → Gains before after here None
changed_gains before after here connection changed there lists counts on_line same_own vc next found = by (is_same_vc vc here) refl
  where
    now : connection_in (with_connection before.connections here changed) vc ≡ Some next
    now = subst (λ (list : List (Vc × Connection)). connection_in list vc ≡ Some next) lists found

    by : (b : Bool) → is_same_vc vc here ≡ b → Gain before after here None vc next
    by true e =
        let same = vc_same vc here e in
        let is : Some changed ≡ Some next =
        sym (put_found before.connections here changed) ∙ subst (λ (v : Vc). connection_in (with_connection before.connections here changed) v ≡ Some next) same now in
        let it : changed ≡ next = same_Some changed next is in
        let line : next.line ≡ connection.line = ap (λ (c : Connection). c.line) (sym it) ∙ on_line in
        record {
          connection = connection;
          found = subst (λ (v : Vc). connection_in before.connections v ≡ Some connection) (sym same) there;
          line = line;
          counts = λ verdict.
              let one = ap (λ (of : ℕ → List Verdict). count_of (tally_of (of next.line)) verdict) counts
              ∙ ap (λ n. count_of (tally_of (before.verdicts n)) verdict) line in
              let none = added_none (is_same_vc vc here) verdict in
              omega (arith, one, none);
          own = λ verdict.
              let one = ap (λ (c : Connection). own_count c verdict) (sym it) ∙ ap (λ (tally : Tally). count_of tally verdict) same_own in
              let none = added_none (is_same_vc vc here) verdict in
              omega (arith, one, none);
        }
    by false e = record {
      connection = next;
      found = sym (put_others before.connections here vc changed e) ∙ now;
      line = refl;
      counts = λ verdict.
          let one = ap (λ (of : ℕ → List Verdict). count_of (tally_of (of next.line)) verdict) counts in
          let none = added_none (is_same_vc vc here) verdict in
          omega (arith, one, none);
      own = λ verdict. let none = added_none (is_same_vc vc here) verdict in omega (arith, none);
    }

pub cut_gains : (before after : World) (vc : Vc) (reply : Reply) → WorldStep before (Cut vc) reply after → Gains before after vc None
cut_gains before after vc reply =
    desk-cases (Gains before after vc None) (λ fault. Refused fault) (missing_fault before vc) before after (Cut vc) reply
    (λ s. changed_gains before after vc s.connection _ s.found (ap (λ (w : World). w.connections) s.world) (ap (λ (w : World). w.verdicts) s.world) refl refl)
    (λ l. same_gains before after vc l.world)
    (λ fault r. same_gains before after vc r.world)

ready_gains : (before ready after : Card) (cell : List ℕ) (moment : ℕ) (given : Answer) → IsLed before → MayBeCut before (connection_of_cell before cell) ready
    → TakesCell ready cell moment given after → Gains before.world after.world (connection_of_cell before cell) (verdict_given given)
ready_gains before ready after cell moment given led (inl same) takes =
    taken_gains before after cell moment given led (subst (λ (card : Card). TakesCell card cell moment given after) same takes)
ready_gains before ready after cell moment given led (inr (line, cuts)) takes =
    let here = connection_of_cell before cell in
    let shaped : ready.world.shape ≡ before.world.shape = cut_shaped before.world ready.world here cuts.reply cuts.stepped in
    let last : Gains ready.world after.world here (verdict_given given) =
    subst (λ (shape : Shape). Gains ready.world after.world (vc_of shape.side cell) (verdict_given given)) shaped
    (taken_gains ready after cell moment given (cut-led before ready here line led cuts) takes) in
    joined before.world ready.world after.world here (verdict_given given) (cut_gains before.world ready.world here cuts.reply cuts.stepped) last

pub room_gains : (before after : Card) (cell : List ℕ) (moment : ℕ) (given : Answer) → IsLed before → TakesCellWithRoom before cell moment given after
    → Gains before.world after.world (connection_of_cell before cell) (verdict_given given)
room_gains before after cell moment given led takes = ready_gains before takes.ready after cell moment given led takes.cuts takes.taken

-- ---- spans
