-- How a cell goes through the stored card: it enters the port, is picked and judged.
use Rattle.std.proofs.Common.{◌⊎◌, ◌≡◌, ◌==◌, ℕ, inl, inr, true, List, length, [], ◌++◌, Option, Some, None, option_map, Result, refl, sym, ap, ◌∙◌, subst}
use Rattle.std.specs.Bool.{MatchBool}
use Rattle.std.specs.Option.{IfNone, IfSome, MatchOption}
use Rattle.std.proofs.lemmas.List.{append-nil}
use Rattle.gen_arena.specs.declared.id.Id.{Id}
use Rattle.upc_cell.specs.Connection.{vc_of}
use Rattle.upc_cell.specs.declared.side.Side.{Side}
use Rattle.card_core.specs.Agreement.{Follows}
use Rattle.card_core.specs.Arrival.{AnswersArrival}
use Rattle.card_core.specs.inner.ArrivalWays.{AnsweredByPick, AnsweredByJudgement}
use Rattle.card_core.proofs.Public.{arrival-ways}
use Rattle.card_core.specs.Steps.{WorldStep}
use Rattle.card_core.specs.World.{World}
use Rattle.card_core.specs.Sections.{answer_to, unjudged_answer}
use Rattle.card_core.specs.declared.answer.Answer.{Answer}
use Rattle.card_core.specs.declared.answer.Judgement.{Judgement}
use Rattle.card_core.specs.declared.answer.Unjudged.{Unjudged}
use Rattle.card_core.specs.declared.answer.Unjudged.TheVariants as unjudged
use Rattle.line_record.specs.declared.fault.LineFault.TheVariants.{TooLate, Back, Full, NoMemory}
use Rattle.card_core.specs.declared.reply.Reply.TheVariants.{Answered, NotNow}
use Rattle.card_core.specs.declared.step.Step.TheVariants.{Enter, Pick, Judge}
use Rattle.text_card.specs.Replies.{answer_text, number_of_judging, numbered_answer_text}
use Rattle.text_words.specs.FaultLines.{bad_hex, wrong_length}
use Rattle.text_words.specs.Hexadecimal.{cell_of_octets, octets_of_digits}
use Rattle.cmd_run.specs.RunText.{Obeys, PolicesCell, PolicesOctets, RefusesLine}
use Rattle.text_script.specs.ScriptCommands.{cell}
use Rattle.cmd_run.proofs.MovesLemmas.{moves-map}
use Rattle.cmd_run.specs.ShownCard.{Held, Moves}
use Rattle.cmd_run.specs.inner.Policing.{AnswersCell}
use Rattle.cmd_run.specs.inner.PortZero.{enter-goes}

-- A cell that takes all its steps is answered by the pick or by the judgement.
arrives-answered_by : (held held' : Held) (octets : List ℕ) (moment : ℕ) (given : Answer) → held'.names ≡ held.names
    → AnsweredByPick held.core 0 octets moment given held'.core ⊎ AnsweredByJudgement held.core 0 octets moment given held'.core
    → AnswersCell held octets moment (Some given) held'
arrives-answered_by held held' octets moment given names (inl way) = (
  names,
  λ before led shows.
      let on = way led.shape led.log before.world led.leads shows.agrees in
      let picks = on.stepped.2 in
      let last : WorldStep on.stepped.0 (Pick 0) (Answered given) on.after =
      subst (λ (world : World). WorldStep on.stepped.0 (Pick 0) (Answered given) world) (sym picks.2) picks.1 in
      (given, refl, on.after, (on.stepped.0, on.stepped.1, inl last), on.agrees),
)
arrives-answered_by held held' octets moment given names (inr way) = (
  names,
  λ before led shows.
      let on = way led.shape led.log before.world led.leads shows.agrees in
      let picks = on.stepped.2 in
      let judges = picks.2 in
      let last : WorldStep picks.0 (Judge 0) (Answered given) on.after =
      subst (λ (world : World). WorldStep picks.0 (Judge 0) (Answered given) world) (sym judges.2) judges.1 in
      (given, refl, on.after, (on.stepped.0, on.stepped.1, inr (picks.0, picks.1, last)), on.agrees),
)

pub arrives-answered : (held held' : Held) (octets : List ℕ) (moment : ℕ) (given : Answer) → held'.names ≡ held.names
    → AnswersArrival held.core 0 octets moment given held'.core → AnswersCell held octets moment (Some given) held'
arrives-answered held held' octets moment given names way =
    arrives-answered_by held held' octets moment given names (arrival-ways held.core held'.core 0 octets moment given way)

-- A cell is not let in only if no card is represented.
pub arrives-not : (held held' : Held) (octets : List ℕ) (moment : ℕ) → held'.names ≡ held.names
    → Follows held.core (Enter 0 octets moment) NotNow held'.core → AnswersCell held octets moment None held'
arrives-not held held' octets moment names enters = (
  names,
  λ before led shows.
      let one = enters led.shape led.log before.world led.leads shows.agrees in
      let came = enter-goes before.world one.after octets moment NotNow led.free one.stepped in
      let no = came.0 in cc,
)

pub arrives : (held held' : Held) (octets : List ℕ) (moment : ℕ) (printed : Option (Result Judgement Unjudged)) → held'.names ≡ held.names
    → IfSome printed (λ t. AnswersArrival held.core 0 octets moment (answer_to octets t) held'.core)
    → IfNone printed (Follows held.core (Enter 0 octets moment) NotNow held'.core)
    → AnswersCell held octets moment (option_map (λ t. answer_to octets t) printed) held'
arrives held held' octets moment (Some t) names goes not = arrives-answered held held' octets moment (answer_to octets t) names goes
arrives held held' octets moment None names goes not = arrives-not held held' octets moment names not

-- A cell is policed if its answer is appended.
pub polices-printed : (held held' : Held) (side : Side) (octets : List ℕ) (moment : ℕ) (given : Answer) (text old new : List ℕ) → held.core.shape.side ≡ side
    → AnswersCell held octets moment (Some given) held' → numbered_answer_text side (number_of_judging held.names given) (vc_of side octets) given ≡ Some text
    → new ≡ old ++ text → Moves (λ before. PolicesCell before moment octets) held held' old new
polices-printed held held' side octets moment given text old new is answers printed added = (
  text,
  added,
  λ before led shows.
      let goes = answers.1 before led shows in
      let same : goes.0 ≡ given = let e = goes.1 in cc in
      let here : side ≡ before.world.shape.side = sym is ∙ ap (λ s. s.side) shows.agrees.shape in (
        record { world = goes.2; names = before.names },
        record { agrees = goes.4; names = answers.0 ∙ shows.names },
        record {
          answer = goes.0;
          arrived = goes.3;
          same = refl;
          printed =
              ap (λ answer. answer_text before.world.shape.side before.names (vc_of before.world.shape.side octets) answer) same
              ∙ ap (λ s. answer_text s before.names (vc_of s octets) given) (sym here)
              ∙ ap (λ (names : List Id). answer_text side names (vc_of side octets) given) (sym shows.names) ∙ printed;
        },
      ),
)

-- A cell without an answer: no represented card leaves it without one.
pub polices-never : (held held' : Held) (octets : List ℕ) (moment : ℕ) (old : List ℕ) → AnswersCell held octets moment None held'
    → Moves (λ before. PolicesCell before moment octets) held held' old old
polices-never held held' octets moment old answers = (
  [],
  sym (append-nil old),
  λ before led shows. let goes = answers.1 before led shows in let no = goes.1 in cc,
)

-- A word that spells a cell.
pub moves-cell : (moment : ℕ) (word octets here : List ℕ) (held held' : Held) (old new : List ℕ) → octets_of_digits word ≡ Some octets → cell_of_octets octets ≡ here
    → length here ≡ 52 → Moves (λ before. PolicesCell before moment here) held held' old new → Moves (λ before. Obeys before (cell moment word)) held held' old new
moves-cell moment word octets here held held' old new spelled is long moves =
    moves-map (λ before. PolicesCell before moment here) (λ before. Obeys before (cell moment word)) held held' old new (λ before after text polices.
    let test : (length here == 52) ≡ true = ap (λ n. n == 52) long in
    let sized : PolicesOctets before moment here text after =
    subst (λ b. MatchBool b (PolicesCell before moment here text after) (RefusesLine (wrong_length (length here)) before text after)) (sym test) polices in
    subst (λ (found : Option (List ℕ)). MatchOption found (RefusesLine bad_hex before text after) (λ read. PolicesOctets before moment (cell_of_octets read) text after)) (sym spelled)
    (subst (λ read. PolicesOctets before moment read text after) (sym is) sized)) moves

-- A cell that isn't judged has no program that named a contract for it.
pub number-unjudged : (names : List Id) (reason : Unjudged) → number_of_judging names (unjudged_answer reason) ≡ 0
number-unjudged names unjudged.NoConnection = refl
number-unjudged names unjudged.Released = refl
number-unjudged names unjudged.Stale = refl
number-unjudged names (unjudged.LineFault TooLate) = refl
number-unjudged names (unjudged.LineFault (Back last)) = refl
number-unjudged names (unjudged.LineFault Full) = refl
number-unjudged names (unjudged.LineFault NoMemory) = refl
