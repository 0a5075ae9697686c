-- Cards that are alike answer a cell alike, although each may drop the cell's journal before.
use Rattle.std.proofs.Common.{◌≡◌, ◌⊎◌, inl, inr, ℕ, ◌+◌, ◌-◌, ◌≤◌, ◌<◌, ◌^◌, Bool, true, false, if◌then◌else◌, List, ◌++◌, length, length-drop, Option, Some, None, is_none, nat_le, nat_lt, option_map, refl, sym, ap, ◌∙◌, subst, arith}
use Rattle.std.specs.Option.{MatchOption}
use Rattle.std.proofs.lemmas.Bool.{leb-true}
use Rattle.std.proofs.lemmas.Option.{same_Some}
use Rattle.card_core.proofs.Public.{worlds-sound}
use Rattle.card_core.specs.Refusals.{cell_refusal}
use Rattle.card_core.specs.Steps.{FindsNoMemory, IsRefused, Succeeds, WorldStep}
use Rattle.card_core.specs.World.{Connection, World, connection_in, kept_cells}
use Rattle.card_core.specs.declared.answer.Answer.{Answer}
use Rattle.card_core.specs.declared.answer.Answer.TheVariants as answer
use Rattle.card_core.specs.declared.fault.DeskFault.{DeskFault}
use Rattle.card_core.specs.declared.fault.DeskFault.TheVariants.{NoConnection}
use Rattle.card_core.specs.declared.reply.Reply.{Reply}
use Rattle.card_core.specs.declared.reply.Reply.TheVariants.{Refused}
use Rattle.card_core.specs.declared.shape.Shape.{Shape}
use Rattle.card_core.specs.declared.step.Step.TheVariants.{Cut}
use Rattle.leaky.specs.declared.verdict.Verdict.{Verdict}
use Rattle.text_card.specs.Replies.{number_of_judging, reply_text}
use Rattle.text_script.specs.ScriptCommands.{cut}
use Rattle.upc_cell.specs.Connection.{vc_of}
use Rattle.upc_cell.specs.declared.vc.Vc.{Vc}
use Rattle.line_record.specs.History.{last_moment}
use Rattle.cmd_run.proofs.alike.CellsAlike.{CellKnown, HasRoom, cell-alike, number_judging, number_shown, shown_answer}
use Rattle.cmd_run.proofs.alike.LinesAlike.{CardsAlike}
use Rattle.cmd_run.proofs.alike.SameConnections.{same-back, same-itself, unchanged-same}
use Rattle.cmd_run.proofs.alike.ViewsAlike.{ViewsAlike, alike-back, alike-joined}
use Rattle.cmd_run.proofs.one_script.CellSteps.{CellCase, CellStep, cell-step, judged, missed, refused}
use Rattle.cmd_run.proofs.one_script.ConnectionSteps.{changed_at}
use Rattle.cmd_run.proofs.one_script.HoldsAfter.{holds-kept, left}
use Rattle.cmd_run.proofs.one_script.Numbers.{length-names, names_of}
use Rattle.cmd_run.proofs.one_script.RecordSteps.{cut-comes, cut-loads, handed_out, seen_missing_fault}
use Rattle.cmd_run.proofs.one_script.Seen.{Seen, seen}
use Rattle.cmd_run.proofs.one_script.SeenLines.{IsAfterLines}
use Rattle.cmd_run.specs.RunText.{Card, IsLed, TakesCommand, id_loaded}
use Rattle.cmd_run.specs.inner.RunLaws.{cut-led}
use Rattle.cmd_setups.specs.CellsTaken.{IsCutOrWorn, MayBeCut, TakesCellWithRoom, connection_of_cell}
use Rattle.cmd_police.specs.inner.PoliceTotal.{room_led}
use Rattle.cmd_setups.proofs.CommandLemmas.{room_names}
use Rattle.cmd_setups.proofs.LeftLemmas.{cut_shaped, put_found}

-- ---- a cut

-- After a cut no cell is kept on the connection.
kept_none : (world : World) (vc : Vc) (reply : Reply) (after : World) (connection : Connection) (many : ℕ) (line : List ℕ)
    → reply_text world.shape.side (cut vc) many reply ≡ Some line → WorldStep world (Cut vc) reply after
    → connection_in after.connections vc ≡ Some connection → length (kept_cells connection) ≡ 0
kept_none world vc reply after connection many line printed step there = by (connection_in world.connections vc) refl step
  where
    by : (found : Option Connection) → connection_in world.connections vc ≡ found
        → MatchOption (option_map Refused (if is_none found then Some NoConnection else None))
        (Succeeds world (Cut vc) reply after ⊎ FindsNoMemory world (Cut vc) reply after) (λ reason. IsRefused world (Cut vc) reason reply after)
        → length (kept_cells connection) ≡ 0
    by None e is =
        let no : None ≡ Some connection = sym e ∙ sym (ap (λ (w : World). connection_in w.connections vc) is.world) ∙ there in absurd (cc)
    by (Some old) e (inl goes) =
        let new : Connection = record goes.connection { returned = length goes.connection.history } in
        let own : Some new ≡ Some connection =
        sym (put_found world.connections vc new) ∙ sym (ap (λ (w : World). connection_in w.connections vc) goes.world) ∙ there in
        let none : length (kept_cells new) ≡ length goes.connection.history - length goes.connection.history = length-drop (length goes.connection.history) goes.connection.history in
        ap (λ (c : Connection). length (kept_cells c)) (sym (same_Some new connection own)) ∙ omega (arith, none)
    by (Some old) e (inr lacks) = let no = lacks.answer in absurd (cc)

-- Its view is as it was.
left_from : (fault : Option DeskFault) (s next : Seen) → ViewsAlike s next → ViewsAlike s (left fault s next)
left_from None s next alike = alike
left_from (Some fault) s next alike = record { rest = refl; connections = same-itself s.connections }

-- The card before a cell, and the card that takes it.
pub record IsReady (met most : ℕ) (before ready : Card) : Type 0 where
  pub reached : IsAfterLines met most ready
  pub views : ViewsAlike (seen before.world) (seen ready.world)

cut_ready : (met most : ℕ) (before ready : Card) (vc : Vc) (line : List ℕ) → IsAfterLines met most before → TakesCommand before (cut vc) (Cut vc) line ready
    → IsReady met most before ready
cut_ready met most before ready vc line reached takes =
    let many = ap length reached.names ∙ length-names before.world.loaded in
    let printed = subst (λ n. reply_text before.world.shape.side (cut vc) n takes.reply ≡ Some line) many takes.printed in
    let done = cut-comes met before.world ready.world vc takes.reply line reached.holds printed takes.stepped in
    let changed : ViewsAlike (seen before.world) (changed_at (seen before.world) vc handed_out) = record {
      rest = refl;
      connections = same-back (changed_at (seen before.world) vc handed_out).connections (seen before.world).connections
          (unchanged-same before.world.loaded before.world.connections reached.holds.connections.once vc handed_out (λ x. refl));
    } in
    record {
      reached = record {
        led = cut-led before ready vc line reached.led takes;
        holds = holds-kept met before.world ready.world reached.holds done.holds (cut-loads before.world ready.world vc takes.reply takes.stepped);
        names = takes.named ∙ ap (λ ids. ids ++ id_loaded takes.reply) reached.names ∙ sym done.named;
        counted = λ number. subst (λ (verdicts : ℕ → List Verdict). length (verdicts number) ≤ most) (sym done.judged) (reached.counted number);
      };
      views = subst (λ (s : Seen). ViewsAlike (seen before.world) s) (sym done.shown)
          (left_from (seen_missing_fault (seen before.world) vc) (seen before.world) (changed_at (seen before.world) vc handed_out) changed);
    }

ready_by : (met most : ℕ) (before ready : Card) (vc : Vc) → IsAfterLines met most before → MayBeCut before vc ready → IsReady met most before ready
ready_by met most before ready vc reached (inl same) = record {
  reached = subst (λ (card : Card). IsAfterLines met most card) (sym same) reached;
  views = subst (λ (card : Card). ViewsAlike (seen before.world) (seen card.world)) (sym same) (record { rest = refl; connections = same-itself (seen before.world).connections });
}
ready_by met most before ready vc reached (inr (line, cuts)) = cut_ready met most before ready vc line reached cuts

-- ---- the room in a journal

-- Why a cell finds no room.
full_by : (late back full worn : Bool) (last : ℕ)
    → (if late then Some answer.MomentTooLate else if back then Some (answer.MomentBack last) else if full then Some answer.JournalFull
    else if worn then Some answer.JournalFull else None) ≡ Some answer.JournalFull
    → (full ≡ true) ⊎ (worn ≡ true)
full_by true back full worn last e = absurd (cc)
full_by false true full worn last e = absurd (cc)
full_by false false true worn last e = inl refl
full_by false false false true last e = inr refl
full_by false false false false last e = absurd (cc)

full_cause : (world : World) (connection : Connection) (moment : ℕ) → cell_refusal world connection moment ≡ Some answer.JournalFull
    → (nat_le world.shape.journal (length (kept_cells connection)) ≡ true) ⊎ (nat_le (2 ^ 62) (length (world.verdicts connection.line)) ≡ true)
full_cause world connection moment e =
    full_by (nat_lt (2 ^ 62) moment) (nat_lt moment (last_moment 0 connection.history)) (nat_le world.shape.journal (length (kept_cells connection)))
    (nat_le (2 ^ 62) (length (world.verdicts connection.line))) (last_moment 0 connection.history) e

-- A card of a lawful shape has room after a cut.
room_after_cut : (most : ℕ) → most < 2 ^ 62 → (world after : World) (cell : List ℕ) (moment : ℕ) (given : Answer) → ((line : ℕ) → length (world.verdicts line) ≤ most)
    → ((connection : Connection) → connection_in world.connections (vc_of world.shape.side cell) ≡ Some connection → length (kept_cells connection) ≡ 0)
    → CellCase world after moment cell given → given ≡ answer.JournalFull → nat_le world.shape.journal 0 ≡ true
room_after_cut most few world after cell moment given counted none (missed missing is shown) full =
    let no : answer.NoConnection ≡ answer.JournalFull = sym is ∙ full in absurd (cc)
room_after_cut most few world after cell moment given counted none (refused connection there code named value gives why shown) full =
    elim (full_cause world connection moment (why ∙ ap (λ (a : Answer). Some a) full)) [
      | inl fills ↦ subst (λ n. nat_le world.shape.journal n ≡ true) (none connection there) fills
      | inr worn ↦
          let most_here = counted connection.line in
          let least = leb-true (2 ^ 62) (length (world.verdicts connection.line)) worn in absurd (omega (arith, few, most_here, least))
    ]
room_after_cut most few world after cell moment given counted none (judged connection there code named value gives allowed is shown) full =
    let no = sym is ∙ full in absurd (cc)

-- ---- a cell

-- What is known of a card before and after a cell.
record TakenKnown (met most : ℕ) (before ready after : Card) (cell : List ℕ) (moment : ℕ) (given : Answer) : Type 0 where
  pub ready_for : IsReady met most before ready
  pub step : CellStep met ready.world after.world moment cell given
  pub known : CellKnown met most ready.world after.world moment cell given

taken_known : (met most : ℕ) → most < 2 ^ 62 → (before after : Card) (cell : List ℕ) (moment : ℕ) (given : Answer) → IsAfterLines met most before
    → (takes : TakesCellWithRoom before cell moment given after) → TakenKnown met most before takes.ready after cell moment given
taken_known met most few before after cell moment given reached takes =
    let vc = connection_of_cell before cell in
    let ready = ready_by met most before takes.ready vc reached takes.cuts in
    let step = cell-step met takes.ready.world after.world moment cell given ready.reached.holds ready.reached.led.free takes.taken.arrived in
    record {
      ready_for = ready;
      step = step;
      known = record {
        invariant = ready.reached.holds;
        counted = ready.reached.counted;
        sound = worlds-sound ready.reached.led.shape ready.reached.led.log takes.ready.world ready.reached.led.leads;
        room = λ full. room ready step (takes.room full) full;
        case = step.case;
      };
    }
  where
    room : IsReady met most before takes.ready → CellStep met takes.ready.world after.world moment cell given
        → IsCutOrWorn before (connection_of_cell before cell) takes.ready → HasRoom takes.ready.world given
    room ready step (inl (line, cuts)) full =
        let shaped = cut_shaped before.world takes.ready.world (connection_of_cell before cell) cuts.reply cuts.stepped in
        room_after_cut most few takes.ready.world after.world cell moment given ready.reached.counted
        (λ connection there. kept_none before.world (connection_of_cell before cell) cuts.reply takes.ready.world connection (length before.names) line cuts.printed cuts.stepped
        (subst (λ (shape : Shape). connection_in takes.ready.world.connections (vc_of shape.side cell) ≡ Some connection) shaped there))
        step.case full
    room ready step (inr worn) full =
        let most_here = reached.counted worn.0.line in
        let least = worn.2 in absurd (omega (arith, few, most_here, least))

taken_after : (met most : ℕ) (before after : Card) (cell : List ℕ) (moment : ℕ) (given : Answer) → IsLed before
    → (takes : TakesCellWithRoom before cell moment given after) → TakenKnown met most before takes.ready after cell moment given → IsAfterLines met (most + 1) after
taken_after met most before after cell moment given led takes taken = record {
  led = room_led before after cell moment given led takes;
  holds = holds-kept met takes.ready.world after.world taken.ready_for.reached.holds taken.step.holds taken.step.same;
  names = takes.taken.same ∙ taken.ready_for.reached.names ∙ ap names_of (sym taken.step.same);
  counted = taken.step.counted most taken.ready_for.reached.counted;
}

-- The number of the program that gave a cell its value, by the names before it, is that by the programs that were loaded.
number_taken : (met most : ℕ) (before after : Card) (cell : List ℕ) (moment : ℕ) (given : Answer) (takes : TakesCellWithRoom before cell moment given after)
    → IsAfterLines met most takes.ready → number_of_judging before.names given ≡ number_judging takes.ready.world.loaded given
number_taken met most before after cell moment given takes reached =
    ap (λ names. number_of_judging names given) (room_names before after cell moment given takes ∙ takes.taken.same ∙ reached.names)
    ∙ number_shown takes.ready.world.loaded given

-- The answers are equal but for lines, numbers and ids, programs with the same number gave the values, and the cards are alike after the cell.
pub record CellTakenAlike (met most : ℕ) (given given' : Answer) (before before' after after' : Card) : Type 0 where
  pub answers : shown_answer given ≡ shown_answer given'
  pub numbers : number_of_judging before.names given ≡ number_of_judging before'.names given'
  pub cards : CardsAlike met (most + 1) after after'

pub room_alike : (met most : ℕ) → most < 2 ^ 62 → (before before' after after' : Card) → CardsAlike met most before before'
    → (cell : List ℕ) (moment : ℕ) (given given' : Answer) → TakesCellWithRoom before cell moment given after → TakesCellWithRoom before' cell moment given' after'
    → CellTakenAlike met most given given' before before' after after'
room_alike met most few before before' after after' cards cell moment given given' takes takes' =
    let one = taken_known met most few before after cell moment given cards.first takes in
    let other = taken_known met most few before' after' cell moment given' cards.second takes' in
    let ready : ViewsAlike (seen takes.ready.world) (seen takes'.ready.world) =
    alike-joined (seen takes.ready.world) (seen before.world) (seen takes'.ready.world)
    (alike-back (seen before.world) (seen takes.ready.world) one.ready_for.views)
    (alike-joined (seen before.world) (seen before'.world) (seen takes'.ready.world) cards.views other.ready_for.views) in
    let done = cell-alike met most few takes.ready.world takes'.ready.world after.world after'.world moment cell given given' ready one.known other.known in
    record {
      answers = done.answers;
      numbers = number_taken met most before after cell moment given takes one.ready_for.reached
          ∙ done.numbers ∙ sym (number_taken met most before' after' cell moment given' takes' other.ready_for.reached);
      cards = record {
        first = taken_after met most before after cell moment given cards.first.led takes one;
        second = taken_after met most before' after' cell moment given' cards.second.led takes' other;
        views = done.views;
      };
    }
