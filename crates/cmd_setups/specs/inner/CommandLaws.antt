-- Commands between cells have answers, and lead to cards that a log leads to. These laws are in `specs/` because the run cites them.
use Rattle.std.proofs.Common.{◌≡◌, ℕ, Bool, true, false, List, [], ◌∷◌, ◌++◌, Option, Some, None, nat_le, refl, sym, subst}
use Rattle.std.specs.Bool.{MatchBool}
use Rattle.std.specs.Option.{MatchOption}
use Rattle.card_core.specs.World.{connection_in}
use Rattle.upc_cell.specs.declared.vc.Vc.{Vc}
use Rattle.text_script.specs.ScriptCommands.{command_of}
use Rattle.text_io.specs.Words.{is_silent, words_of}
use Rattle.cmd_run.specs.RunText.{Card, IsLed, OpensOrObeys, RefusesLine, RunSteps, RunWorld}
use Rattle.cmd_run.specs.inner.RunLaws.{run-total}
use Rattle.text_words.specs.FaultLines.{bad_line}
use Rattle.cmd_setups.specs.CommandsUnderTraffic.{AnswersUnderTraffic, AnswersWithCounts, CarriesFirst, CarriesNothing, CarriesOutWaiting, command_line, counted_answer, ended_journal, is_answered_plainly}
use Rattle.cmd_setups.specs.TimedLines.{WaitingCommand}

-- A command leads to a card that a log leads to.
plain_led : (before after : Card) (content text : List ℕ) (taken : Bool) → IsLed before
    → MatchBool taken (RunSteps (Some before) content text (Some (Some after))) (RefusesLine bad_line before text after) → IsLed after
plain_led before after content text true led steps = run-total.keeps (Some before) content text (Some after) led steps
plain_led before after content text false led refused = subst IsLed (sym refused.1) led

answered_led : (before after : Card) (content text : List ℕ) (ended : Option (List ℕ × Vc)) → IsLed before
    → MatchOption ended
    (MatchBool (is_answered_plainly (words_of content)) (RunSteps (Some before) content text (Some (Some after))) (RefusesLine bad_line before text after))
    (λ ended. AnswersWithCounts before content ended text after) → IsLed after
answered_led before after content text None led answers = plain_led before after content text (is_answered_plainly (words_of content)) led answers
answered_led before after content text (Some ended) led answers = run-total.keeps (Some before) content answers.given (Some after) led answers.steps

pub under_traffic_led : (before after : Card) (content text : List ℕ) → IsLed before → AnswersUnderTraffic before content text after → IsLed after
under_traffic_led before after content text led answers =
    answered_led before after content text (ended_journal (command_of before.world.shape.side (words_of content))) led answers

-- A line leads from a card to a card.
line_next : (before : Card) (content text : List ℕ) (next : Option RunWorld) (silent : Bool)
    → MatchBool silent ((text ≡ []) × (next ≡ Some (Some before))) (OpensOrObeys (Some before) (words_of content) text next)
    → (after : Card) × (next ≡ Some (Some after))
line_next before content text next true steps = (before, steps.1)
line_next before content text next false steps = (steps.0, steps.2)

run_next : (before : Card) (content text : List ℕ) (next : Option RunWorld) → RunSteps (Some before) content text next → (after : Card) × (next ≡ Some (Some after))
run_next before content text next steps = line_next before content text next (is_silent (words_of content)) steps

-- A command has an answer.
plain_some : (before : Card) (content : List ℕ) (taken : Bool) → IsLed before
    → (text : List ℕ) × (after : Card) × MatchBool taken (RunSteps (Some before) content text (Some (Some after))) (RefusesLine bad_line before text after)
plain_some before content true led =
    let step = run-total.step (Some before) content led in
    let on = run_next before content step.0 step.1 step.2 in
    (step.0, on.0, subst (λ (next : Option RunWorld). RunSteps (Some before) content step.0 next) on.1 step.2)
plain_some before content false led = (bad_line, before, (refl, refl))

answered_some : (before : Card) (content : List ℕ) (ended : Option (List ℕ × Vc)) → IsLed before
    → (text : List ℕ) × (after : Card) × MatchOption ended
    (MatchBool (is_answered_plainly (words_of content)) (RunSteps (Some before) content text (Some (Some after))) (RefusesLine bad_line before text after))
    (λ ended. AnswersWithCounts before content ended text after)
answered_some before content None led = plain_some before content (is_answered_plainly (words_of content)) led
answered_some before content (Some ended) led =
    let step = plain_some before content true led in (
      counted_answer before.world ended (connection_in before.world.connections ended.1) step.0,
      step.1,
      record { given = step.0; steps = step.2; counted = refl },
    )

under_traffic_some : (before : Card) (content : List ℕ) → IsLed before → (text : List ℕ) × (after : Card) × AnswersUnderTraffic before content text after
under_traffic_some before content led = answered_some before content (ended_journal (command_of before.world.shape.side (words_of content))) led

-- The commands whose moment has come are carried out.
pub record SomeCarried (waiting : List WaitingCommand) (moment : ℕ) (before : Card) : Type 0 where
  pub text : List ℕ
  pub after : Card
  pub left : List WaitingCommand
  pub carried : CarriesOutWaiting waiting moment before text after left

-- By whether the moment of the first command has come.
abbrev pub CarriesBy : WaitingCommand → List WaitingCommand → ℕ → Card → List ℕ → Card → List WaitingCommand → Bool → Type 0
CarriesBy first waiting moment before text after left due =
    MatchBool due (CarriesFirst first before text (λ next more. CarriesOutWaiting waiting moment next more after left))
    (CarriesNothing (first ∷ waiting) before text after left)

one_due : (first : WaitingCommand) (waiting : List WaitingCommand) (moment : ℕ) (before : Card) (due : Bool) → nat_le first.moment moment ≡ due → IsLed before
    → ((next : Card) → IsLed next → SomeCarried waiting moment next) → SomeCarried (first ∷ waiting) moment before
one_due first waiting moment before true is led later =
    let one = under_traffic_some before first.content led in
    let on = later one.1 (under_traffic_led before one.1 first.content one.0 led one.2) in
    let text = command_line first.moment one.0 ++ on.text in
    let goes : CarriesBy first waiting moment before text on.after on.left true = record {
      answer = one.0;
      next = one.1;
      answered = one.2;
      more = on.text;
      later = on.carried;
      whole = refl;
    } in
    record {
      text = text;
      after = on.after;
      left = on.left;
      carried = subst (CarriesBy first waiting moment before text on.after on.left) (sym is) goes;
    }
one_due first waiting moment before false is led later =
    let stays : CarriesBy first waiting moment before [] before (first ∷ waiting) false = record { none = refl; same = refl; all = refl } in
    record {
      text = [];
      after = before;
      left = first ∷ waiting;
      carried = subst (CarriesBy first waiting moment before [] before (first ∷ waiting)) (sym is) stays;
    }

pub carries_some : (waiting : List WaitingCommand) (moment : ℕ) (before : Card) → IsLed before → SomeCarried waiting moment before
carries_some [] moment before led = record { text = []; after = before; left = []; carried = record { none = refl; same = refl; all = refl } }
carries_some (first ∷ waiting) moment before led =
    one_due first waiting moment before (nat_le first.moment moment) refl led (λ next led'. carries_some waiting moment next led')

-- They lead to a card that a log leads to.
due_led : (first : WaitingCommand) (waiting left : List WaitingCommand) (moment : ℕ) (before after : Card) (text : List ℕ) (due : Bool) → IsLed before
    → ((next : Card) (more : List ℕ) → IsLed next → CarriesOutWaiting waiting moment next more after left → IsLed after)
    → CarriesBy first waiting moment before text after left due → IsLed after
due_led first waiting left moment before after text true led later goes =
    later goes.next goes.more (under_traffic_led before goes.next first.content goes.answer led goes.answered) goes.later
due_led first waiting left moment before after text false led later stays = subst IsLed (sym stays.same) led

pub carries_led : (waiting left : List WaitingCommand) (moment : ℕ) (before after : Card) (text : List ℕ) → IsLed before
    → CarriesOutWaiting waiting moment before text after left → IsLed after
carries_led [] left moment before after text led stays = subst IsLed (sym stays.same) led
carries_led (first ∷ waiting) left moment before after text led carried =
    due_led first waiting left moment before after text (nat_le first.moment moment) led
    (λ next more led' on. carries_led waiting left moment next after more led' on) carried
