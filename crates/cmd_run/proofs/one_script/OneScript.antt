-- A script has one run text: if two cards, each after the same number of lines, have equal views, then a line has the
-- same answer on both, and their views after it are equal.
use Rattle.std.proofs.Common.{◌≡◌, ℕ, ◌+◌, ◌^◌, ◌<◌, Bool, true, false, List, [], codes, Option, Some, None, refl, sym, ◌∙◌, subst, arith}
use Rattle.std.specs.Bool.{MatchBool, ⊤}
use Rattle.std.specs.Option.{MatchOption}
use Rattle.gen_arena.specs.Slot.{greatest_generation}
use Rattle.card_core.specs.Shapes.{shape_fault}
use Rattle.card_core.specs.declared.fault.CardFault.{CardFault}
use Rattle.card_core.specs.declared.shape.Shape.{Shape}
use Rattle.text_io.proofs.Public.{one-text_alike, some-text}
use Rattle.text_io.specs.Answering.{EndsBy}
use Rattle.text_io.specs.Limits.{most_input_lines}
use Rattle.text_io.specs.Lines.{lines_of}
use Rattle.text_io.specs.Words.{is_silent, words_of}
use Rattle.text_io.specs.declared.ending.Done.{Done}
use Rattle.text_io.specs.inner.Alike.{KeepsAlike, LeadAlike}
use Rattle.text_card.specs.CardLine.{card_line_shape}
use Rattle.text_card.specs.CardFaults.{no_card, shape_fault_line}
use Rattle.cmd_run.specs.RunText.{Card, CommandLine, IsLed, IsRunText, OpensCard, RunCloses, RunSteps, RunWorld, OpensOrObeys, new_card, run_rules}
use Rattle.cmd_run.specs.inner.RunLaws.{run-total}
use Rattle.cmd_run.proofs.one_script.OneAnswer.{line-once}
use Rattle.cmd_run.proofs.one_script.Seen.{Seen, seen}
use Rattle.cmd_run.proofs.one_script.SeenLines.{IsAfterLines, LineSeen, line-comes}
use Rattle.cmd_run.proofs.one_script.HoldsAfter.{opening-holds, holds-later, judged-later}

-- Both cards have had this number of lines, and their views are equal.
pub record AreCardsAlike (met : ℕ) (one other : Card) : Type 0 where
  pub first : IsAfterLines met met one
  pub second : IsAfterLines met met other
  pub same : seen one.world ≡ seen other.world

-- No card was opened yet, or both cards are alike.
abbrev pub AreAlike : ℕ → RunWorld → RunWorld → Type 0
AreAlike met None None = ⊤
AreAlike met (Some one) (Some other) = AreCardsAlike met one other
AreAlike met _ _ = ⊥

-- The worlds after both lines, once they are known.
lead : (met : ℕ) (next next' known known' : Option RunWorld) → next ≡ known → next' ≡ known'
    → LeadAlike (AreAlike met) known known' → LeadAlike (AreAlike met) next next'
lead met next next' known known' e e' alike =
    subst (λ n. LeadAlike (AreAlike met) n next') (sym e) (subst (λ n. LeadAlike (AreAlike met) known n) (sym e') alike)

-- Both lines have the same text and lead to worlds that are alike.
abbrev AnswerAlike : ℕ → List ℕ → List ℕ → Option RunWorld → Option RunWorld → Type 0
AnswerAlike met one other next next' = (one ≡ other) × LeadAlike (AreAlike met) next next'

-- A line that leaves a card unchanged.
after_lines-later : (met : ℕ) (card : Card) → IsAfterLines met met card → IsAfterLines (met + 1) (met + 1) card
after_lines-later met card reached = record {
  led = reached.led;
  holds = holds-later met card.world reached.holds;
  names = reached.names;
  counted = judged-later met card.world card.world reached.counted refl;
}

ends-alike : (met : ℕ) (fault one other : List ℕ) (next next' : Option RunWorld) → EndsBy fault one next → EndsBy fault other next'
    → AnswerAlike met one other next next'
ends-alike met fault one other next next' p q = (p.0 ∙ sym q.0, lead met next next' None None p.1 q.1 tt)

-- The line that opens a card.
opens-alike : (met : ℕ) (shape : Shape) (found : Option CardFault) (one other : List ℕ) (next next' : Option RunWorld)
    → ((card : Card) → next ≡ Some (Some card) → IsLed card)
    → MatchOption found ((one ≡ codes "ready\n") × (next ≡ Some (Some (new_card shape)))) (λ fault. EndsBy (shape_fault_line fault) one next)
    → MatchOption found ((other ≡ codes "ready\n") × (next' ≡ Some (Some (new_card shape)))) (λ fault. EndsBy (shape_fault_line fault) other next')
    → AnswerAlike met one other next next'
opens-alike met shape None one other next next' led p q =
    let reached : IsAfterLines met met (new_card shape) = record {
      led = led (new_card shape) p.1;
      holds = opening-holds met shape;
      names = refl;
      counted = λ line. omega arith;
    } in
    (p.0 ∙ sym q.0, lead met next next' (Some (Some (new_card shape))) (Some (Some (new_card shape))) p.1 q.1 (record { first = reached; second = reached; same = refl }))
opens-alike met shape (Some fault) one other next next' led p q = ends-alike met (shape_fault_line fault) one other next next' p q

opening-alike : (met : ℕ) (found : Option Shape) (one other : List ℕ) (next next' : Option RunWorld)
    → ((card : Card) → next ≡ Some (Some card) → IsLed card)
    → MatchOption found (EndsBy no_card one next) (λ shape. OpensCard shape one next)
    → MatchOption found (EndsBy no_card other next') (λ shape. OpensCard shape other next')
    → AnswerAlike met one other next next'
opening-alike met None one other next next' led p q = ends-alike met no_card one other next next' p q
opening-alike met (Some shape) one other next next' led p q = opens-alike met shape (shape_fault shape) one other next next' led p q

-- A line to a card.
commands-alike : (met : ℕ) (before before' : Card) (words : List (List ℕ)) (one other : List ℕ) (after after' : Card)
    → met < most_input_lines → AreCardsAlike met before before' → IsLed after → IsLed after'
    → CommandLine before words one after → CommandLine before' words other after'
    → (one ≡ other) × AreCardsAlike (met + 1) after after'
commands-alike met before before' words one other after after' few alike led led' p q =
    let generations : met < greatest_generation = omega arith in
    let unworn : met < 2 ^ 62 = omega arith in
    let here = line-comes met met generations unworn before alike.first after one words p in
    let there = line-comes met met generations unworn before' alike.second after' other words q in
    let same = line-once (seen before.world) words one other (seen after.world) (seen after'.world) here.shown
    (subst (λ (s : Seen). LineSeen s words other (seen after'.world)) (sym alike.same) there.shown) in (
      same.0,
      record {
        first = record { led = led; holds = here.holds; names = here.names; counted = here.counted };
        second = record { led = led'; holds = there.holds; names = there.names; counted = there.counted };
        same = same.1;
      },
    )

-- The invariant of a run after a line that leads to a card.
keeps-led : (world : RunWorld) (line text : List ℕ) (next : Option RunWorld) (card : Card) → run_rules.is_sound world
    → RunSteps world line text next → next ≡ Some (Some card) → IsLed card
keeps-led world line text next card sound steps e =
    run-total.keeps world line text (Some card) sound (subst (λ n. RunSteps world line text n) e steps)

-- A line of a run without a card, silent or not.
none-alike : (met : ℕ) (line one other : List ℕ) (next next' : Option RunWorld) (b : Bool)
    → ((card : Card) → next ≡ Some (Some card) → IsLed card)
    → MatchBool b ((one ≡ []) × (next ≡ Some None)) (OpensOrObeys None (words_of line) one next)
    → MatchBool b ((other ≡ []) × (next' ≡ Some None)) (OpensOrObeys None (words_of line) other next')
    → AnswerAlike met one other next next'
none-alike met line one other next next' true led p q = (p.0 ∙ sym q.0, lead met next next' (Some None) (Some None) p.1 q.1 tt)
none-alike met line one other next next' false led p q = opening-alike met (card_line_shape (words_of line)) one other next next' led p q

some-alike : (met : ℕ) (before before' : Card) (line one other : List ℕ) (next next' : Option RunWorld) (b : Bool)
    → met < most_input_lines → AreCardsAlike met before before'
    → ((card : Card) → next ≡ Some (Some card) → IsLed card) → ((card : Card) → next' ≡ Some (Some card) → IsLed card)
    → MatchBool b ((one ≡ []) × (next ≡ Some (Some before))) (OpensOrObeys (Some before) (words_of line) one next)
    → MatchBool b ((other ≡ []) × (next' ≡ Some (Some before'))) (OpensOrObeys (Some before') (words_of line) other next')
    → AnswerAlike (met + 1) one other next next'
some-alike met before before' line one other next next' true few alike led led' p q = (
  p.0 ∙ sym q.0,
  lead (met + 1) next next' (Some (Some before)) (Some (Some before')) p.1 q.1 (record {
    first = after_lines-later met before alike.first;
    second = after_lines-later met before' alike.second;
    same = alike.same;
  }),
)
some-alike met before before' line one other next next' false few alike led led' p q =
    let done = commands-alike met before before' (words_of line) one other p.0 q.0 few alike (led p.0 p.2) (led' q.0 q.2) p.1 q.1 in
    (done.0, lead (met + 1) next next' (Some (Some p.0)) (Some (Some q.0)) p.2 q.2 done.1)

step-alike : (met : ℕ) (world world' : RunWorld) (line one other : List ℕ) (next next' : Option RunWorld)
    → met < most_input_lines → AreAlike met world world' → RunSteps world line one next → RunSteps world' line other next'
    → AnswerAlike (met + 1) one other next next'
step-alike met None None line one other next next' few alike p q =
    none-alike (met + 1) line one other next next' (is_silent (words_of line)) (λ card e. keeps-led None line one next card tt p e) p q
step-alike met None (Some after) line one other next next' few alike p q = absurd alike
step-alike met (Some before) None line one other next next' few alike p q = absurd alike
step-alike met (Some before) (Some before') line one other next next' few alike p q =
    some-alike met before before' line one other next next' (is_silent (words_of line)) few alike
    (λ card e. keeps-led (Some before) line one next card alike.first.led p e)
    (λ card e. keeps-led (Some before') line other next' card alike.second.led q e) p q

close-alike : (met : ℕ) (world world' : RunWorld) (one other : List ℕ) (done done' : Done) → AreAlike met world world'
    → RunCloses world one done → RunCloses world' other done' → (one ≡ other) × (done ≡ done')
close-alike met None None one other done done' alike p q = (p.0 ∙ sym q.0, p.1 ∙ sym q.1)
close-alike met None (Some after) one other done done' alike p q = absurd alike
close-alike met (Some before) None one other done done' alike p q = absurd alike
close-alike met (Some before) (Some before') one other done done' alike p q = (p.0 ∙ sym q.0, p.1 ∙ sym q.1)

-- The rules of `run` give the same text in worlds that are alike.
pub run-alike : KeepsAlike run_rules AreAlike
run-alike = record { step = step-alike; close = close-alike }

pub some-run_text : (octets : List ℕ) → (text : List ℕ) × (done : Done) × IsRunText octets text done
some-run_text octets = some-text run_rules run-total (lines_of octets) 0 None tt

pub one-run_text : (octets one other : List ℕ) (ends other_ends : Done) → IsRunText octets one ends → IsRunText octets other other_ends
    → (one ≡ other) × (ends ≡ other_ends)
one-run_text octets one other ends other_ends p q =
    one-text_alike run_rules AreAlike run-alike (lines_of octets) 0 None None one other ends other_ends tt p q
