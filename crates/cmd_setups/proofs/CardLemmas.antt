-- How a cell and a cut change the card that a core agrees with.
use Rattle.std.proofs.Common.{◌≡◌, ◌≤◌, ◌⊎◌, ℕ, ◌^◌, inl, inr, false, List, length, [], ◌++◌, Option, Some, None, option_map, slice_get, Result, refl, sym, ap, ◌∙◌, subst}
use Rattle.std.specs.Option.{IfNone, IfSome}
use Rattle.std.proofs.lemmas.List.{append-nil}
use Rattle.card_core.specs.Agreement.{CoreAgrees, CoreView, Follows, seating_of}
use Rattle.card_core.specs.Arrival.{AnswersAfterCut, AnswersArrival, AnswersDropping, CutsIfLong, IsWorn}
use Rattle.card_core.specs.World.{Connection, World, connection_in}
use Rattle.card_core.specs.Laws.{is_of_memory}
use Rattle.card_core.specs.Sections.{answer_to}
use Rattle.card_core.specs.declared.answer.Answer.{Answer}
use Rattle.card_core.specs.declared.answer.Answer.TheVariants.{Judged, NoConnection, Released, Stale, MomentBack, MomentTooLate, JournalFull, NoMemory}
use Rattle.card_core.specs.declared.answer.Judgement.{Judgement}
use Rattle.card_core.specs.declared.answer.Unjudged.{Unjudged}
use Rattle.card_core.specs.declared.reply.Reply.{Reply}
use Rattle.card_core.specs.declared.reply.Reply.TheVariants.{NotNow, Cut as CutOff}
use Rattle.card_core.specs.declared.step.Step.TheVariants.{Cut, Enter}
use Rattle.gen_arena.specs.declared.id.Id.{Id}
use Rattle.card_core.specs.declared.shape.Shape.{Shape}
use Rattle.upc_cell.specs.Connection.{vc_of}
use Rattle.upc_cell.specs.declared.vc.Vc.{Vc}
use Rattle.cmd_run.proofs.Public.{arrives}
use Rattle.cmd_run.specs.RunText.{Card, IsLed, id_loaded}
use Rattle.cmd_run.specs.ShownCard.{Held}
use Rattle.cmd_run.specs.inner.CardSteps.{cut-printed}
use Rattle.cmd_run.specs.inner.RunLaws.{cut-led}
use Rattle.cmd_setups.specs.CellsTaken.{IsWornLine, TakesCellWithRoom, connection_of_cell}
use Rattle.cmd_setups.specs.inner.CardArrival.{ArrivesOnce, CutsOff}
use Rattle.cmd_setups.specs.CardArrival.{ArrivesWithRoom}
use Rattle.line_record.proofs.Public.{verdicts_count}
use Rattle.line_record.specs.Tally.{cells_in, tally_of}
use Rattle.line_record.specs.declared.directory.Seating.{Seating}

-- A cell that takes all its steps.
pub arrives_once : (old new : CoreView) (cell : List ℕ) (moment : ℕ) (decision : Option (Result Judgement Unjudged))
    → IfSome decision (λ t. AnswersArrival old 0 cell moment (answer_to cell t) new)
    → IfNone decision (Follows old (Enter 0 cell moment) NotNow new)
    → ArrivesOnce old cell moment (option_map (λ t. answer_to cell t) decision) new
arrives_once old new cell moment decision goes not before led agrees =
    let held : Held = record { core = old; names = before.names } in
    let held' : Held = record { core = new; names = before.names } in
    let on = (arrives held held' cell moment decision refl goes not).1 before led (record { agrees = agrees; names = refl }) in (
      on.0,
      on.1,
      record { world = on.2; names = before.names },
      record { arrived = on.3; same = refl },
      on.4,
    )

-- A connection that is seated is set up.
seated_in : (found : Option Connection) (seating : Seating) → option_map seating_of found ≡ Some seating
    → (connection : Connection) × (found ≡ Some connection) × (seating_of connection ≡ seating)
seated_in None seating is = cc
seated_in (Some connection) seating is = (connection, refl, let same : Some (seating_of connection) ≡ Some seating = is in cc)

-- A cut that didn't fail to allocate.
pub cuts_off : (old new : CoreView) (vc : Vc) (reply : Reply) → Follows old (Cut vc) reply new → is_of_memory reply ≡ false → id_loaded reply ≡ []
    → CutsOff old vc new
cuts_off old new vc reply follows spares none before led agrees =
    let on = follows led.shape led.log before.world led.leads agrees in
    let printed = cut-printed before.world.shape.side before.world on.after vc (length before.names) reply on.stepped spares in (
      printed.0,
      record { world = on.after; names = before.names },
      record {
        reply = reply;
        stepped = on.stepped;
        named = sym (append-nil before.names) ∙ ap (λ (ids : List Id). before.names ++ ids) (sym none);
        printed = printed.1;
      },
      on.agrees,
    )

-- The line of a connection that is worn in the core is worn in each world that the core agrees with.
worn_in_world : (core : CoreView) (world : World) (vc : Vc) → CoreAgrees core world → IsWorn core vc → IsWornLine world vc
worn_in_world core world vc agrees (line, has, worn) =
    let found = seated_in (connection_in world.connections vc) has.seating (sym (agrees.seatings.seatings vc) ∙ has.seated) in
    let at : slice_get core.lines found.0.line ≡ Some line =
    subst (λ (seating : Seating). slice_get core.lines seating.line ≡ Some line) (sym found.2) has.there in
    let counts : line.state.counts ≡ tally_of (world.verdicts found.0.line) = agrees.lines.counts found.0.line line at in
    (found.0, found.1, subst (λ n. 2 ^ 62 ≤ n) (ap cells_in counts ∙ verdicts_count.cells (world.verdicts found.0.line)) worn)

-- Two ways in which a cell arrives: as it is, or after a cut of its connection if its journal is long.
keeping_ways : (most : ℕ) (old new : CoreView) (cell : List ℕ) (moment : ℕ) (answer : Answer) → AnswersDropping most old 0 cell moment answer new
    → AnswersArrival old 0 cell moment answer new ⊎ AnswersAfterCut most old 0 cell moment answer new
keeping_ways most old new cell moment NoConnection way = inl way
keeping_ways most old new cell moment Stale way = inl way
keeping_ways most old new cell moment (Judged line number at value program verdict leaving) way = inr way
keeping_ways most old new cell moment Released way = inr way
keeping_ways most old new cell moment (MomentBack last) way = inr way
keeping_ways most old new cell moment MomentTooLate way = inr way
keeping_ways most old new cell moment JournalFull way = inr way
keeping_ways most old new cell moment NoMemory way = inr way

-- A cell that arrives at a card that was cut, or not.
module _ (most : ℕ) (old new : CoreView) (cell : List ℕ) (moment : ℕ) (decision : Result Judgement Unjudged)
    (full : answer_to cell decision ≡ JournalFull → IsWorn old (vc_of old.shape.side cell))
    (before : Card) (led : IsLed before) (agrees : CoreAgrees old before.world) where
  abbrev Arrived : Type 0
  Arrived = (answer : Answer) × (Some (answer_to cell decision) ≡ Some answer) × (after : Card) × TakesCellWithRoom before cell moment answer after
      × CoreAgrees new after.world

  named : vc_of old.shape.side cell ≡ connection_of_cell before cell
  named = ap (λ (shape : Shape). vc_of shape.side cell) agrees.shape

  worn : (answer : Answer) → Some (answer_to cell decision) ≡ Some answer → answer ≡ JournalFull → IsWornLine before.world (connection_of_cell before cell)
  worn answer is journal =
      let same : answer_to cell decision ≡ answer = cc in
      subst (IsWornLine before.world) named (worn_in_world old before.world (vc_of old.shape.side cell) agrees (full (same ∙ journal)))

  as_it_is : AnswersArrival old 0 cell moment (answer_to cell decision) new → Arrived
  as_it_is arrival =
      let on = arrives_once old new cell moment (Some decision) arrival tt before led agrees in
      (on.0, on.1, on.2, record { ready = before; cuts = inl refl; taken = on.3; room = λ journal. inr (worn on.0 on.1 journal) }, on.4)

  after_cut : (middle : CoreView) → CutsIfLong most old (vc_of old.shape.side cell) middle
      → AnswersArrival middle 0 cell moment (answer_to cell decision) new → Arrived
  after_cut middle (inr (short, same)) arrival =
      as_it_is (subst (λ (core : CoreView). AnswersArrival core 0 cell moment (answer_to cell decision) new) same arrival)
  after_cut middle (inl (long, (piece, follows))) arrival =
      let vc = connection_of_cell before cell in
      let cuts = cuts_off old middle vc (CutOff piece) (subst (λ (v : Vc). Follows old (Cut v) (CutOff piece) middle) named follows) refl refl before led agrees in
      let on = arrives_once middle new cell moment (Some decision) arrival tt cuts.1 (cut-led before cuts.1 vc cuts.0 led cuts.2) cuts.3 in
      (on.0, on.1, on.2, record { ready = cuts.1; cuts = inr (cuts.0, cuts.2); taken = on.3; room = λ journal. inl (cuts.0, cuts.2) }, on.4)

  arrived : AnswersDropping most old 0 cell moment (answer_to cell decision) new → Arrived
  arrived way = elim (keeping_ways most old new cell moment (answer_to cell decision) way) [
    | inl once ↦ as_it_is once
    | inr (middle, cuts, arrival) ↦ after_cut middle cuts arrival
  ]

-- No represented card leaves a cell without an answer.
arrives_none : (old new : CoreView) (cell : List ℕ) (moment : ℕ) → Follows old (Enter 0 cell moment) NotNow new → ArrivesWithRoom old cell moment None new
arrives_none old new cell moment not before led agrees =
    let on = arrives_once old new cell moment None tt not before led agrees in
    let no : None ≡ Some on.0 = on.1 in absurd cc

arrives_some : (most : ℕ) (old new : CoreView) (cell : List ℕ) (moment : ℕ) (decision : Result Judgement Unjudged)
    → AnswersDropping most old 0 cell moment (answer_to cell decision) new
    → (answer_to cell decision ≡ JournalFull → IsWorn old (vc_of old.shape.side cell))
    → ArrivesWithRoom old cell moment (Some (answer_to cell decision)) new
arrives_some most old new cell moment decision goes full before led agrees = arrived most old new cell moment decision full before led agrees goes

-- A cell that takes all its steps, after a long journal of its connection is dropped.
pub arrives_with_room : (most : ℕ) (old new : CoreView) (cell : List ℕ) (moment : ℕ) (decision : Option (Result Judgement Unjudged))
    → IfSome decision (λ t. AnswersDropping most old 0 cell moment (answer_to cell t) new)
    → IfNone decision (Follows old (Enter 0 cell moment) NotNow new)
    → IfSome decision (λ t. answer_to cell t ≡ JournalFull → IsWorn old (vc_of old.shape.side cell))
    → ArrivesWithRoom old cell moment (option_map (λ t. answer_to cell t) decision) new
arrives_with_room most old new cell moment None goes not full = arrives_none old new cell moment not
arrives_with_room most old new cell moment (Some decision) goes not full = arrives_some most old new cell moment decision goes full
