-- An own step of a connection, and its effects, in any world.
use Rattle.std.proofs.Common.{◌≡◌, ◌⊎◌, ℕ, ◌+◌, Bool, true, false, List, length, set, Option, Some, None, MatchOption, slice_get, option_map, refl, sym, ap, ◌∙◌, subst, inl, inr, arith}
use Rattle.upc_cell.specs.declared.side.Side.{Side}
use Rattle.upc_cell.specs.declared.vc.Vc.{Vc}
use Rattle.upc_cell.specs.Connection.{vc_of, is_same_vc}
use Rattle.upc_cell.proofs.Public.{vc_same}
use Rattle.gen_arena.specs.declared.id.Id.{Id}
use Rattle.card_core.specs.declared.answer.Answer.{Answer}
use Rattle.card_core.specs.declared.answer.Answer.TheVariants as cell_answers
use Rattle.card_core.specs.declared.ask.Ask.{Ask}
use Rattle.card_core.specs.declared.reply.Reply.{Reply}
use Rattle.card_core.specs.declared.reply.Reply.TheVariants.{Entered, Picked, Answered, SetUp, Reloaded, Released, Cut as CutOff}
use Rattle.card_core.specs.declared.step.Step.{Step}
use Rattle.card_core.specs.declared.step.Step.TheVariants.{Enter, Pick, Judge, Setup, Reload, Release, Cut}
use Rattle.card_core.specs.World.{World, Connection, Picking, PortState, outside, entered, picked, code_in, connection_in, with_connection, without_connection, with_port}
use Rattle.card_core.specs.Refusals.{refusal, pick_refusal, judge_refusal, picking_refusal}
use Rattle.card_core.specs.Steps.{Enters, SetsUp, Reloads, Releases, Cuts, Succeeds, FindsNoMemory, IsRefused, WorldStep, picking_of, cell_of_picking, with_cell, judged_world, new_connection, left_by_pick, left_by_judge}
use Rattle.card_isolation.specs.Act.{Act, sets_up, reloads, releases, cuts, enters, looks_up, judges}
use Rattle.card_isolation.specs.Outcome.{Outcome, done, named_before, outcome_of, outcome_of_piece}
use Rattle.card_isolation.specs.OwnEvents.{own_where, own_event}
use Rattle.card_core.proofs.LookUps.{mapped}
use Rattle.card_isolation.proofs.Alone.{event_with}
use Rattle.card_core.proofs.ConnectionLemmas.{without-here}
use Rattle.card_isolation.proofs.Connections.{with-here, with-others, without-others, found-same}
use Rattle.card_isolation.proofs.Views.{has_own_in, notes_in}
use Rattle.card_isolation.proofs.JudgeSteps.{no-connection}
use Rattle.card_isolation.proofs.Unseen.{none-picked, none-judged}
use Rattle.card_isolation.proofs.Shadow.{Holding, held, holding_of, has_kept_in, HasOnlyKept, kept-too, only-kept-set, HasEntered, HasPicked}

-- An own step: its act, what the connection holds afterwards, and how many more incarnations were given. It isn't an
-- event of another connection, and changes no other connection. If this connection is kept and each port had a kept
-- connection's cell or none, this is still so.
pub record OwnStep (vc : Vc) (before : World) (step : Step) (reply : Reply) (after : World) (act : Act) (holds : Option Holding → Option Holding) (more : ℕ) : Type 0 where
  pub outcome : Outcome
  pub event : own_event before.shape.side vc (notes_in vc before) reply step ≡ Some (event_with act outcome)
  pub apart : (other : Vc) → is_same_vc other vc ≡ false → own_event before.shape.side other (notes_in other before) reply step ≡ None
  pub loaded : after.loaded ≡ before.loaded
  pub live : after.live ≡ before.live
  pub holding : holding_of vc after ≡ holds (holding_of vc before)
  pub incarnations : after.incarnations ≡ before.incarnations + more
  pub others : (other : Vc) → is_same_vc other vc ≡ false
      → connection_in after.connections other ≡ connection_in before.connections other
  pub ports : (kept : Vc → Bool) → kept vc ≡ true → HasOnlyKept before.shape.side kept before.ports
      → HasOnlyKept before.shape.side kept after.ports

-- What a connection holds after a step: the same, this line and this program, another program, or nothing.

abbrev pub same_holding : Option Holding → Option Holding
same_holding holding = holding

abbrev pub new_holding : ℕ → Id → Option Holding → Option Holding
new_holding line program old = Some (record { line = line; program = program })

abbrev pub new_program : Id → Option Holding → Option Holding
new_program program old = option_map (λ (h : Holding). record h { program = program }) old

abbrev pub no_holding : Option Holding → Option Holding
no_holding old = None

-- The reply and the world after a step, replaced by equal ones.
own-at : (vc : Vc) (before : World) (step : Step) (one other : Reply) (after later : World) (act : Act) (holds : Option Holding → Option Holding) (more : ℕ)
    → one ≡ other → after ≡ later → OwnStep vc before step other later act holds more → OwnStep vc before step one after act holds more
own-at vc before step one other after later act holds more same leads own =
    subst (λ (r : Reply). OwnStep vc before step r after act holds more) (sym same)
    (subst (λ (w : World). OwnStep vc before step other w act holds more) (sym leads) own)

-- A virtual connection that differs from one differs from any equal one.
away : (vc own other : Vc) → is_same_vc vc own ≡ true → is_same_vc other vc ≡ false → is_same_vc other own ≡ false
away vc own other same apart = subst (λ (v : Vc). is_same_vc other v ≡ false) (vc_same vc own same) apart

pub own-enters : (vc : Vc) (before : World) (port : ℕ) (cell : List ℕ) (moment : ℕ) (reply : Reply) (after : World)
    → is_same_vc vc (vc_of before.shape.side cell) ≡ true → slice_get before.ports port ≡ Some outside
    → Enters before port cell moment reply after
    → OwnStep vc before (Enter port cell moment) reply after (enters port cell moment) same_holding 0
own-enters vc before port cell moment reply after own was w =
    own-at vc before (Enter port cell moment) reply Entered after (with_port before port (entered cell moment)) (enters port cell moment) same_holding 0
    w.answer w.world (record {
      outcome = done;
      event = ap (λ b. own_where b (enters port cell moment) done) own;
      apart = λ other apart.
          ap (λ b. own_where b (enters port cell moment) done) (away vc (vc_of before.shape.side cell) other own apart);
      loaded = refl;
      live = refl;
      holding = refl;
      incarnations = omega (arith);
      others = λ other apart. refl;
      ports = λ kept is.
          only-kept-set before.shape.side kept before.ports port outside (entered cell moment) was
          (λ none. let some = kept-too kept vc (vc_of before.shape.side cell) is own in absurd (cc));
    })

pub own-sets_up : (vc : Vc) (before : World) (ask : Ask) (reply : Reply) (after : World) → is_same_vc vc ask.vc ≡ true
    → (w : SetsUp before ask reply after)
    → OwnStep vc before (Setup ask) reply after (sets_up ask.contracts.items (code_in before.loaded ask.program)) (new_holding w.line ask.program) 1
own-sets_up vc before ask reply after own w =
    let new : Connection = new_connection ask w.line (before.incarnations + 1) in
    let act : Act = sets_up ask.contracts.items (code_in before.loaded ask.program) in
    own-at vc before (Setup ask) reply (SetUp (record { vc = ask.vc; incarnation = before.incarnations + 1 })) after
    (record before { connections = with_connection before.connections ask.vc new; incarnations = before.incarnations + 1 }) act (new_holding w.line ask.program) 1
    w.answer w.world (record {
      outcome = done;
      event = ap (λ b. own_where b act done) own;
      apart = λ other apart. ap (λ b. own_where b act done) (away vc ask.vc other own apart);
      loaded = refl;
      live = refl;
      holding = ap (option_map held) (with-here before.connections ask.vc vc new own);
      incarnations = refl;
      others = λ other apart. with-others before.connections ask.vc other new (away vc ask.vc other own apart);
      ports = λ kept is only. only;
    })

pub own-reloads : (vc : Vc) (before : World) (other : Vc) (program : Id) (reply : Reply) (after : World) → is_same_vc vc other ≡ true
    → Reloads before other program reply after
    → OwnStep vc before (Reload other program) reply after (reloads (code_in before.loaded program)) (new_program program) 0
own-reloads vc before other program reply after own w =
    let new : Connection = record w.connection { program = program } in
    let act : Act = reloads (code_in before.loaded program) in
    own-at vc before (Reload other program) reply (Reloaded w.connection.program) after
    (record before { connections = with_connection before.connections other new }) act (new_program program) 0
    w.answer w.world (record {
      outcome = named_before (code_in before.loaded w.connection.program);
      event = ap (λ b. own_where b act (named_before (code_in before.loaded w.connection.program))) own;
      apart = λ another apart.
          ap (λ b. own_where b act (named_before (code_in before.loaded w.connection.program))) (away vc other another own apart);
      loaded = refl;
      live = refl;
      holding = ap (option_map held) (with-here before.connections other vc new own)
          ∙ sym (ap (λ (o : Option Connection). new_program program (option_map held o))
          (found-same before.connections vc other (Some w.connection) own w.found));
      incarnations = omega (arith);
      others = λ another apart. with-others before.connections other another new (away vc other another own apart);
      ports = λ kept is only. only;
    })

pub own-cuts : (vc : Vc) (before : World) (other : Vc) (reply : Reply) (after : World) → is_same_vc vc other ≡ true
    → Cuts before other reply after → OwnStep vc before (Cut other) reply after cuts same_holding 0
own-cuts vc before other reply after own w =
    let new : Connection = record w.connection { returned = length w.connection.history } in
    own-at vc before (Cut other) reply (CutOff w.piece) after
    (record before { connections = with_connection before.connections other new }) cuts same_holding 0
    w.answer w.world (record {
      outcome = outcome_of_piece w.piece;
      event = ap (λ b. own_where b cuts (outcome_of_piece w.piece)) own;
      apart = λ another apart. ap (λ b. own_where b cuts (outcome_of_piece w.piece)) (away vc other another own apart);
      loaded = refl;
      live = refl;
      holding = ap (option_map held) (with-here before.connections other vc new own)
          ∙ sym (ap (option_map held) (found-same before.connections vc other (Some w.connection) own w.found));
      incarnations = omega (arith);
      others = λ another apart. with-others before.connections other another new (away vc other another own apart);
      ports = λ kept is only. only;
    })

pub own-releases : (vc : Vc) (before : World) (other : Vc) (reply : Reply) (after : World) → is_same_vc vc other ≡ true
    → Releases before other reply after → OwnStep vc before (Release other) reply after releases no_holding 0
own-releases vc before other reply after own w =
    own-at vc before (Release other) reply (Released w.piece) after
    (record before { connections = without_connection before.connections other }) releases no_holding 0
    w.answer w.world (record {
      outcome = outcome_of_piece w.piece;
      event = ap (λ b. own_where b releases (outcome_of_piece w.piece)) own;
      apart = λ another apart. ap (λ b. own_where b releases (outcome_of_piece w.piece)) (away vc other another own apart);
      loaded = refl;
      live = refl;
      holding = ap (option_map held)
          (found-same (without_connection before.connections other) vc other None own (without-here before.connections other));
      incarnations = omega (arith);
      others = λ another apart. without-others before.connections other another (away vc other another own apart);
      ports = λ kept is only. only;
    })

-- A cell of the connection that has entered is looked up, or answered.

pub own-picks : (vc : Vc) (before : World) (port : ℕ) (reply : Reply) (after : World) → HasEntered vc before port
    → WorldStep before (Pick port) reply after → OwnStep vc before (Pick port) reply after (looks_up port) same_holding 0
own-picks vc before port reply after here w =
    let side : Side = before.shape.side in
    let had_own : has_own_in side vc (slice_get before.ports port) ≡ true = ap (has_own_in side vc) here.had ∙ here.own in
    let not_theirs : (other : Vc) → is_same_vc other vc ≡ false → has_own_in side other (slice_get before.ports port) ≡ false = λ other apart.
    ap (has_own_in side other) here.had ∙ away vc (vc_of side here.cell) other here.own apart in
    let moved : (state : PortState) (answered : Reply) (outcome : Outcome)
    → own_event side vc (notes_in vc before) answered (Pick port) ≡ own_where (has_own_in side vc (slice_get before.ports port)) (looks_up port) outcome
    → ((kept : Vc → Bool) → kept vc ≡ true → has_kept_in side kept (Some state) ≡ false → state ≡ outside)
    → OwnStep vc before (Pick port) answered (with_port before port state) (looks_up port) same_holding 0 = λ state answered outcome event fits. record {
      outcome = outcome;
      event = event ∙ ap (λ b. own_where b (looks_up port) outcome) had_own;
      apart = λ other apart. none-picked side other (notes_in other before) port (not_theirs other apart) answered;
      loaded = refl;
      live = refl;
      holding = refl;
      incarnations = omega (arith);
      others = λ other apart. refl;
      ports = λ kept is. only-kept-set side kept before.ports port (entered here.cell here.moment) state here.had (fits kept is);
    } in
    let choice : (o : Option Reply) → refusal before (Pick port) ≡ o
    → MatchOption o (Succeeds before (Pick port) reply after ⊎ FindsNoMemory before (Pick port) reply after)
    (λ refused. IsRefused before (Pick port) refused reply after)
    → OwnStep vc before (Pick port) reply after (looks_up port) same_holding 0 = elim [
      | None ↦ λ e w. elim w [
        | inl success ↦
            let new : Picking = picking_of success.cell success.moment (vc_of side success.cell) success.connection success.value in
            let same : is_same_vc vc (vc_of side success.cell) ≡ true =
            ap (has_own_in side vc) (sym success.had) ∙ had_own in
            own-at vc before (Pick port) reply Picked after (with_port before port (picked new)) (looks_up port) same_holding 0
            success.answer success.world (moved (picked new) Picked done refl
            (λ kept is none. let some = kept-too kept vc new.vc is same in absurd (cc)))
        | inr memory ↦ let none = memory.answer in absurd (cc)
      ]
      | Some refused ↦ λ e w.
          let at : pick_refusal before (Some (entered here.cell here.moment)) ≡ Some refused =
          ap (pick_refusal before) (sym here.had) ∙ e in
          let none = no-connection (connection_in before.connections (vc_of side here.cell)) refused at in
          own-at vc before (Pick port) reply (Answered cell_answers.NoConnection) after (with_port before port outside) (looks_up port) same_holding 0
          (w.answer ∙ none.1) (w.world ∙ ap (left_by_pick before port) here.had)
          (moved outside (Answered cell_answers.NoConnection) (outcome_of before.loaded cell_answers.NoConnection) refl (λ kept is none. refl))
    ] in
    choice (refusal before (Pick port)) refl w

-- A cell of the connection that was looked up is judged, or answered.

pub own-judges : (vc : Vc) (before : World) (port : ℕ) (reply : Reply) (after : World) → HasPicked vc before port
    → WorldStep before (Judge port) reply after → OwnStep vc before (Judge port) reply after (judges port) same_holding 0
own-judges vc before port reply after here w =
    let side : Side = before.shape.side in
    let had_own : has_own_in side vc (slice_get before.ports port) ≡ true = ap (has_own_in side vc) here.had ∙ here.own in
    let not_theirs : (other : Vc) → is_same_vc other vc ≡ false → has_own_in side other (slice_get before.ports port) ≡ false = λ other apart.
    ap (has_own_in side other) here.had ∙ away vc here.picking.vc other here.own apart in
    let answered : (answer : Answer) (later : World) → later.loaded ≡ before.loaded → later.live ≡ before.live
    → holding_of vc later ≡ holding_of vc before → later.incarnations ≡ before.incarnations
    → ((other : Vc) → is_same_vc other vc ≡ false → connection_in later.connections other ≡ connection_in before.connections other)
    → later.ports ≡ set before.ports port outside
    → OwnStep vc before (Judge port) (Answered answer) later (judges port) same_holding 0 = λ answer later given live holding used others ports. record {
      outcome = outcome_of before.loaded answer;
      event = ap (λ b. own_where b (judges port) (outcome_of before.loaded answer)) had_own;
      apart = λ other apart. none-judged side other (notes_in other before) port (not_theirs other apart) (Answered answer);
      loaded = given;
      live = live;
      holding = holding;
      incarnations = omega (arith, used);
      others = others;
      ports = λ kept is only.
          subst (λ (l : List PortState). HasOnlyKept side kept l) (sym ports)
          (only-kept-set side kept before.ports port (picked here.picking) outside here.had (λ none. refl) only);
    } in
    let choice : (o : Option Reply) → refusal before (Judge port) ≡ o
    → MatchOption o (Succeeds before (Judge port) reply after ⊎ FindsNoMemory before (Judge port) reply after)
    (λ refused. IsRefused before (Judge port) refused reply after)
    → OwnStep vc before (Judge port) reply after (judges port) same_holding 0 = elim [
      | None ↦ λ e w. elim w [
        | inl success ↦
            let own : is_same_vc vc success.picking.vc ≡ true = ap (has_own_in side vc) (sym success.had) ∙ had_own in
            let new : Connection = with_cell success.connection (cell_of_picking success.picking) in
            own-at vc before (Judge port) reply (Answered _) after (judged_world before port success.picking success.connection) (judges port) same_holding 0
            success.answer success.world
            (answered _ (judged_world before port success.picking success.connection) refl refl
            (ap (option_map held) (with-here before.connections success.picking.vc vc new own)
            ∙ sym (ap (option_map held) (found-same before.connections vc success.picking.vc (Some success.connection) own success.found)))
            refl
            (λ other apart. with-others before.connections success.picking.vc other new (away vc success.picking.vc other own apart))
            refl)
        | inr memory ↦ let none = memory.answer in absurd (cc)
      ]
      | Some refused ↦ λ e w.
          let at : judge_refusal before (Some (picked here.picking)) ≡ Some refused =
          ap (judge_refusal before) (sym here.had) ∙ e in
          let is = mapped Answered (picking_refusal before here.picking (connection_in before.connections here.picking.vc)) refused at in
          own-at vc before (Judge port) reply (Answered is.0) after (with_port before port outside) (judges port) same_holding 0
          (w.answer ∙ is.2) (w.world ∙ ap (left_by_judge before port) here.had)
          (answered is.0 (with_port before port outside) refl refl refl refl (λ other apart. refl) refl)
    ] in
    choice (refusal before (Judge port)) refl w
