-- How commands between cells change the stored card.
use Rattle.std.proofs.Common.{◌≡◌, ◌⊎◌, inl, inr, length, ℕ, ◌+◌, Bool, true, false, List, [], ◌∷◌, ◌++◌, Option, Some, None, option_map, codes, decimal, nat_le, append-nil, append_assoc, refl, sym, ap, ◌∙◌, subst}
use Rattle.std.specs.Bool.{MatchBool}
use Rattle.std.specs.Option.{MatchOption}
use Rattle.card_core.specs.World.{Connection, World, connection_in}
use Rattle.card_core.specs.declared.shape.Shape.{Shape}
use Rattle.line_record.specs.declared.tally.Tally.{Tally}
use Rattle.upc_cell.specs.declared.side.Side.{Side}
use Rattle.text_io.specs.Words.{is_filled, words_of}
use Rattle.card_core.specs.declared.answer.Answer.{Answer}
use Rattle.card_core.specs.declared.reply.Reply.{Reply}
use Rattle.card_core.specs.declared.reply.Reply.TheVariants.{Loaded}
use Rattle.gen_arena.specs.declared.id.Id.{Id}
use Rattle.text_card.specs.Replies.{reply_text}
use Rattle.upc_cell.specs.declared.side.Side.{Side}
use Rattle.upc_cell.specs.declared.vc.Vc.{Vc}
use Rattle.cmd_run.specs.RunText.{Card, IsLed, RefusesLine, RunSteps, id_loaded}
use Rattle.text_script.specs.ScriptCommands.{command_of, cut}
use Rattle.cmd_run.specs.ShownCard.{AnswersLine, Held, ShowsCard}
use Rattle.text_words.specs.FaultLines.{bad_line}
use Rattle.cmd_setups.specs.CommandsUnderTraffic.{AnswersUnderTraffic, AnswersWithCounts, CarriesOutWaiting, command_line, counted_answer, ended_journal, is_answered_plainly, waiting_comment, waiting_text}
use Rattle.cmd_setups.specs.ConnectionCounts.{own_counts}
use Rattle.cmd_setups.specs.inner.CountsSince.{AreOwnCounts}
use Rattle.cmd_setups.specs.Columns.{in_column}
use Rattle.cmd_setups.specs.CellsTaken.{MayBeCut, TakesCellWithRoom, connection_of_cell}
use Rattle.cmd_setups.specs.TimedLines.{WaitingCommand}
use Rattle.cmd_setups.specs.declared.counts_at_setup.CountsAtSetup.{CountsAtSetup}
use Rattle.cmd_setups.specs.declared.stored_commands.StoredCommand.{StoredCommand}
use Rattle.cmd_setups.specs.declared.stored_commands.StoredCommands.{StoredCommands}
use Rattle.cmd_setups.specs.declared.timed_card.TimedCard.{TimedCard}
use Rattle.cmd_setups.specs.inner.CommandLaws.{CarriesBy, under_traffic_led}
use Rattle.cmd_setups.specs.inner.CommandsShown.{AnswersPlainly, CarriesOn, CarriesSoFar, answer_of_counts}
use Rattle.cmd_setups.specs.CommandsShown.{CarriesShown, CarriesTo}
use Rattle.cmd_setups.specs.inner.NotedSetups.{MovesNoting}
use Rattle.cmd_setups.specs.StoredCommands.{shown_command, waiting_in}
use Rattle.cmd_setups.specs.inner.TimedScripts.{IsDue, IsNoneDue, after_first_left}

-- A command that is taken is answered as in `run`.
pub taken_moves : (line : List ℕ) (held held' : Held) (at_setup at_setup' : List Tally) (old new : List ℕ) → is_answered_plainly (words_of line) ≡ true
    → MovesNoting (AnswersLine line) held at_setup held' at_setup' old new → MovesNoting (λ before. AnswersPlainly before line) held at_setup held' at_setup' old new
taken_moves line held held' at_setup at_setup' old new is moves = (
  moves.0,
  moves.1,
  λ before led shown are.
      let on = moves.2 before led shown are in (
        on.0,
        on.1,
        on.2,
        subst (λ (b : Bool). MatchBool b (RunSteps (Some before) line moves.0 (Some (Some on.0))) (RefusesLine bad_line before moves.0 on.0)) (sym is) on.3,
      ),
)

-- The counts before a command are those of its answer.
counts_answer : (world : World) (ended : List ℕ × Vc) (given : List ℕ) (connection : Option Connection)
    → answer_of_counts world.shape.side ended.0 ended.1 (option_map own_counts connection) given ≡ counted_answer world ended connection given
counts_answer world ended given None = refl
counts_answer world ended given (Some connection) = refl

-- A command that ends a journal is answered with the counts of its connection.
pub counted_moves : (side : Side) (line word : List ℕ) (vc : Vc) (counts : Option Tally) (held held' : Held) (at_setup at_setup' : List Tally) (given old new : List ℕ)
    → held.core.shape.side ≡ side → AreOwnCounts held.core at_setup vc counts
    → MovesNoting (AnswersLine line) held at_setup held' at_setup' [] given → new ≡ old ++ answer_of_counts side word vc counts given
    → MovesNoting (λ before text after. AnswersWithCounts before line (word, vc) text after) held at_setup held' at_setup' old new
counted_moves side line word vc counts held held' at_setup at_setup' given old new is own moves added = (
  answer_of_counts side word vc counts given,
  added,
  λ before led shown are.
      let on = moves.2 before led shown are in (
        on.0,
        on.1,
        on.2,
        record {
          given = moves.0;
          steps = on.3;
          counted = ap (answer_of_counts side word vc counts) moves.1
              ∙ ap (λ (tally : Option Tally). answer_of_counts side word vc tally moves.0) (sym (own before.world shown.agrees are))
              ∙ ap (λ (s : Side). answer_of_counts s word vc (option_map own_counts (connection_in before.world.connections vc)) moves.0)
              (sym is ∙ ap (λ (shape : Shape). shape.side) shown.agrees.shape)
              ∙ counts_answer before.world (word, vc) moves.0 (connection_in before.world.connections vc);
        },
      ),
)

-- The answer to a command, by whether it ends a journal.
pub ended_moves : (side : Side) (line word : List ℕ) (vc : Vc) (held held' : Held) (at_setup at_setup' : List Tally) (old new : List ℕ) → held.core.shape.side ≡ side
    → Some (word, vc) ≡ ended_journal (command_of side (words_of line))
    → MovesNoting (λ before text after. AnswersWithCounts before line (word, vc) text after) held at_setup held' at_setup' old new
    → MovesNoting (λ before. AnswersUnderTraffic before line) held at_setup held' at_setup' old new
ended_moves side line word vc held held' at_setup at_setup' old new is ends moves = (
  moves.0,
  moves.1,
  λ before led shown are.
      let on = moves.2 before led shown are in
      let here : Some (word, vc) ≡ ended_journal (command_of before.world.shape.side (words_of line)) =
      ends ∙ ap (λ s. ended_journal (command_of s (words_of line))) (sym is ∙ ap (λ (shape : Shape). shape.side) shown.agrees.shape) in (
        on.0,
        on.1,
        on.2,
        subst (λ (ended : Option (List ℕ × Vc)). MatchOption ended (AnswersPlainly before line moves.0 on.0)
            (λ ended. AnswersWithCounts before line ended moves.0 on.0)) here on.3,
      ),
)

pub plain_moves : (side : Side) (line : List ℕ) (held held' : Held) (at_setup at_setup' : List Tally) (old new : List ℕ) → held.core.shape.side ≡ side
    → None ≡ ended_journal (command_of side (words_of line)) → MovesNoting (λ before. AnswersPlainly before line) held at_setup held' at_setup' old new
    → MovesNoting (λ before. AnswersUnderTraffic before line) held at_setup held' at_setup' old new
plain_moves side line held held' at_setup at_setup' old new is ends moves = (
  moves.0,
  moves.1,
  λ before led shown are.
      let on = moves.2 before led shown are in
      let here : None ≡ ended_journal (command_of before.world.shape.side (words_of line)) =
      ends ∙ ap (λ s. ended_journal (command_of s (words_of line))) (sym is ∙ ap (λ (shape : Shape). shape.side) shown.agrees.shape) in (
        on.0,
        on.1,
        on.2,
        subst (λ (ended : Option (List ℕ × Vc)). MatchOption ended (AnswersPlainly before line moves.0 on.0)
            (λ ended. AnswersWithCounts before line ended moves.0 on.0)) here on.3,
      ),
)

-- Nothing is due.
none_carried : (waiting : List WaitingCommand) (moment : ℕ) (before : Card) → IsNoneDue moment waiting → CarriesOutWaiting waiting moment before [] before waiting
none_carried [] moment before none = record { none = refl; same = refl; all = refl }
none_carried (first ∷ waiting) moment before later =
    let stays : CarriesBy first waiting moment before [] before (first ∷ waiting) false = record { none = refl; same = refl; all = refl } in
    subst (CarriesBy first waiting moment before [] before (first ∷ waiting)) (sym later) stays

pub carried_none : (timed : TimedCard) (moment : ℕ) (old : List ℕ) → IsNoneDue moment (waiting_in timed.commands) → CarriesShown timed moment false timed old old
carried_none timed moment old none = (
  [],
  sym (append-nil old),
  refl,
  λ before led shown are. record { after = before; led = led; shown = shown; at_setup = are; carried = none_carried (waiting_in timed.commands) moment before none },
)

-- At first nothing was carried out.
pub carries_start : (timed : TimedCard) (moment : ℕ) (old : List ℕ) → CarriesSoFar timed moment false timed old old
carries_start timed moment old = (
  [],
  sym (append-nil old),
  refl,
  λ before led shown are. record { present = before; led = led; shown = shown; at_setup = are; completes = λ more after left carried. carried },
)

-- The first command is carried out.
first_carried : (first : WaitingCommand) (waiting left : List WaitingCommand) (moment : ℕ) (before next after : Card) (answer more : List ℕ) → nat_le first.moment moment ≡ true
    → AnswersUnderTraffic before first.content answer next → CarriesOutWaiting waiting moment next more after left
    → CarriesOutWaiting (first ∷ waiting) moment before (command_line first.moment answer ++ more) after left
first_carried first waiting left moment before next after answer more due answers carried =
    let text = command_line first.moment answer ++ more in
    let goes : CarriesBy first waiting moment before text after left true = record {
      answer = answer;
      next = next;
      answered = answers;
      more = more;
      later = carried;
      whole = refl;
    } in
    subst (CarriesBy first waiting moment before text after left) (sym due) goes

-- The line about a command is its beginning and the answer.
line_grows : (moment : ℕ) (answer : List ℕ) → command_line moment [] ++ answer ≡ command_line moment answer
line_grows moment answer =
    append_assoc (codes "command\t") (in_column (decimal moment) ++ []) answer
    ∙ ap (λ xs. codes "command\t" ++ xs) (append_assoc (in_column (decimal moment)) [] answer)

-- A text that ends with a line isn't empty.
filled_more : (text : List ℕ) (moment : ℕ) (answer : List ℕ) → true ≡ is_filled (text ++ command_line moment answer)
filled_more [] moment answer = refl
filled_more (octet ∷ octets) moment answer = refl

-- One more was carried out.
pub carries_more : (first timed : TimedCard) (held : Held) (at_setup : CountsAtSetup) (command : StoredCommand) (moment : ℕ) (carried : Bool) (old now begun new : List ℕ)
    → CarriesSoFar first moment carried timed old now → IsDue timed.commands moment command → begun ≡ now ++ command_line command.moment []
    → MovesNoting (λ before. AnswersUnderTraffic before command.content.items) timed.card timed.at_setup.counts.items held at_setup.counts.items begun new
    → CarriesSoFar first moment true (record timed { card = held; at_setup = at_setup; commands = after_first_left timed.commands }) old new
carries_more first timed held at_setup command moment carried old now begun new so_far due begins moves =
    let line = command_line command.moment moves.0 in
    let next : TimedCard = record timed { card = held; at_setup = at_setup; commands = after_first_left timed.commands } in (
      so_far.0 ++ line,
      moves.1 ∙ ap (λ xs. xs ++ moves.0) begins ∙ append_assoc now (command_line command.moment []) moves.0
          ∙ ap (λ xs. now ++ xs) (line_grows command.moment moves.0)
          ∙ ap (λ xs. xs ++ line) so_far.1 ∙ append_assoc old so_far.0 line,
      filled_more so_far.0 command.moment moves.0,
      λ before led shown are.
          let on = so_far.3 before led shown are in
          let goes = moves.2 on.present on.led on.shown on.at_setup in
          record {
            present = goes.0;
            led = under_traffic_led on.present goes.0 command.content.items moves.0 on.led goes.3;
            shown = goes.1;
            at_setup = goes.2;
            completes = λ more after left later.
                subst (λ xs. CarriesOutWaiting (waiting_in first.commands) moment before xs after left) (sym (append_assoc so_far.0 line more))
                (on.completes (line ++ more) after left
                (subst (λ (waiting : List WaitingCommand). CarriesOutWaiting waiting moment on.present (line ++ more) after left) (sym due.left)
                (first_carried (shown_command command) (waiting_in (after_first_left timed.commands)) left moment on.present goes.0 after moves.0 more due.comes goes.3 later)));
          },
    )

-- No more is due.
pub carries_end : (first timed : TimedCard) (moment : ℕ) (carried : Bool) (old new : List ℕ) → CarriesSoFar first moment carried timed old new
    → IsNoneDue moment (waiting_in timed.commands) → CarriesShown first moment carried timed old new
carries_end first timed moment carried old new so_far none = (
  so_far.0,
  so_far.1,
  so_far.2,
  λ before led shown are.
      let on = so_far.3 before led shown are in
      record {
        after = on.present;
        led = on.led;
        shown = on.shown;
        at_setup = on.at_setup;
        carried = subst (λ xs. CarriesOutWaiting (waiting_in first.commands) moment before xs on.present (waiting_in timed.commands)) (append-nil so_far.0)
            (on.completes [] on.present (waiting_in timed.commands) (none_carried (waiting_in timed.commands) moment on.present none));
      },
)

-- The comment about the commands that are left.
pub waiting_shown : (commands : StoredCommands) (first : StoredCommand) → waiting_in commands ≡ shown_command first ∷ waiting_in (after_first_left commands)
    → waiting_comment (waiting_in commands) ≡ waiting_text (length (waiting_in commands)) first.moment
waiting_shown commands first is =
    ap waiting_comment is ∙ ap (λ (waiting : List WaitingCommand). waiting_text (length waiting) first.moment) (sym is)

-- ---- the names of programs

-- A cut loads no program.
unloaded : (side : Side) (vc : Vc) (programs : ℕ) (reply : Reply) (text : List ℕ) → reply_text side (cut vc) programs reply ≡ Some text → id_loaded reply ≡ []
unloaded side vc programs (Loaded id) text e = absurd (cc)
unloaded side vc programs _ text e = refl

cut_names : (before after : Card) (vc : Vc) → MayBeCut before vc after → after.names ≡ before.names
cut_names before after vc (inl same) = ap (λ (card : Card). card.names) same
cut_names before after vc (inr (line, cuts)) =
    cuts.named ∙ ap (λ (ids : List Id). before.names ++ ids) (unloaded before.world.shape.side vc (length before.names) cuts.reply line cuts.printed) ∙ append-nil before.names

-- A cell names no program.
pub room_names : (before after : Card) (cell : List ℕ) (moment : ℕ) (given : Answer) → TakesCellWithRoom before cell moment given after → before.names ≡ after.names
room_names before after cell moment given takes =
    sym (takes.taken.same ∙ cut_names before takes.ready (connection_of_cell before cell) takes.cuts)
