-- The rules of `police` are total: each cell has an answer. This law is in `specs/` because the run cites it.
use Rattle.std.proofs.Common.{◌≡◌, ◌⊎◌, inl, inr, ℕ, List, ◌++◌, Some, refl, subst, sym}
use Rattle.std.proofs.lemmas.Option.{same_Some}
use Rattle.card_core.specs.declared.answer.Answer.{Answer}
use Rattle.captures_text.specs.CellRules.{AnswersEachCell}
use Rattle.cmd_run.specs.RunText.{Card, IsLed}
use Rattle.cmd_run.specs.inner.RunLaws.{arrived-led, cell-some, cut-led, cut-some}
use Rattle.upc_cell.specs.declared.vc.Vc.{Vc}
use Rattle.cmd_setups.specs.SpanCounts.{ended_text}
use Rattle.cmd_police.specs.inner.DueStates.{due_state_led, due_state_some}
use Rattle.cmd_setups.specs.CellsTaken.{MayBeCut, TakesCell, TakesCellWithRoom, connection_of_cell}
use Rattle.cmd_police.specs.PoliceText.{PoliceWorld, after_cell, policed_text, police_rules}

-- A cell that arrives leads to a card that a log leads to.
pub taken_led : (before after : Card) (cell : List ℕ) (moment : ℕ) (given : Answer) → IsLed before → TakesCell before cell moment given after → IsLed after
taken_led before after cell moment given led takes = arrived-led before after moment cell given led takes.arrived takes.same

taken_some : (before : Card) (cell : List ℕ) (moment : ℕ) → IsLed before → (given : Answer) × (after : Card) × TakesCell before cell moment given after
taken_some before cell moment led =
    let one = cell-some before moment cell led in
    (one.2.answer, one.1, record { arrived = one.2.arrived; same = one.2.same })

-- A cut leads to a card that a log leads to.
pub cut_or_not_led : (before after : Card) (vc : Vc) → IsLed before → MayBeCut before vc after → IsLed after
cut_or_not_led before after vc led (inl same) = subst IsLed (sym same) led
cut_or_not_led before after vc led (inr (line, cuts)) = cut-led before after vc line led cuts

-- A cell leads to a card that a log leads to.
pub room_led : (before after : Card) (cell : List ℕ) (moment : ℕ) (given : Answer) → IsLed before → TakesCellWithRoom before cell moment given after → IsLed after
room_led before after cell moment given led takes =
    taken_led takes.ready after cell moment given (cut_or_not_led before takes.ready (connection_of_cell before cell) led takes.cuts) takes.taken

-- A cell has an answer.
pub room_some : (before : Card) (cell : List ℕ) (moment : ℕ) → IsLed before → (given : Answer) × (after : Card) × TakesCellWithRoom before cell moment given after
room_some before cell moment led =
    let vc = connection_of_cell before cell in
    let one = cut-some before vc led in
    let two = taken_some one.1 cell moment (cut-led before one.1 vc one.0 led one.2) in (
      two.0,
      two.1,
      record { ready = one.1; cuts = inr (one.0, one.2); taken = two.2; room = λ full. inl (one.0, one.2) },
    )

-- The rules of `police` are total.
pub police-total : AnswersEachCell police_rules
police-total = record {
  keeps = λ before captured text after led polices.
      let arrived = polices.policed in
      let ready_led = due_state_led before polices.ready captured.moment polices.first led polices.commands in
      subst (λ (world : PoliceWorld). IsLed world.card) (sym (same_Some after (after_cell polices.ready captured arrived.given arrived.card) arrived.after))
      (room_led polices.ready.card arrived.card captured.cell captured.moment arrived.given ready_led arrived.taken);
  step = λ before captured led.
      let due = due_state_some before captured.moment led in
      let ready = due.1 in
      let room = room_some ready.card captured.cell captured.moment (due_state_led before ready captured.moment due.0 led due.2) in
      let rest = ended_text ready.spans captured.moment ++ policed_text ready captured room.0 in (
        due.0 ++ rest,
        Some (after_cell ready captured room.0 room.1),
        record {
          first = due.0;
          ready = ready;
          commands = due.2;
          rest = rest;
          policed = record { given = room.0; card = room.1; taken = room.2; written = refl; after = refl };
          whole = refl;
        },
      );
}
