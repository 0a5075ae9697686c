-- The answer to an input of `why`, from the text of the rules on.
use Rattle.std.proofs.Common.{◌≡◌, ◌≤◌, inl, inr, ℕ, Bool, List, [], ◌∷◌, ◌++◌, Option, Some, None, length, refl, sym, ap, subst, ◌∙◌, arith, append-nil, append_assoc}
use Rattle.rules_text.specs.TextOfRules.{PlacedRulesRead}
use Rattle.text_io.specs.Devices.{Adds, IsPart, TakesEnough}
use Rattle.text_io.specs.Limits.{most_ahead}
use Rattle.text_io.specs.Lines.{Line, lines_of}
use Rattle.text_io.specs.Printing.{IsFront, Prints}
use Rattle.text_io.specs.declared.ending.Done.{Done}
use Rattle.text_io.specs.declared.ending.Done.TheVariants.{Ended}
use Rattle.cmd_rules.specs.RulesAnswers.{AnswersBy, PrintsFault}
use Rattle.cmd_rules.specs.WhyText.{IsWhyText, MayBeWhyText, PrintsDecisions, first_world, lines_after, rules_of_why, why_rules}
use Rattle.cmd_rules.proofs.WholeAnswers.{found-answered}
use Rattle.cmd_rules.specs.inner.Places.{FindsRules}
use Rattle.cmd_rules.specs.inner.RulesTaken.{FindsTextOfRules, TakesRules}

found_is : (found : Option (List ℕ)) (octets more : List ℕ) → FindsTextOfRules found octets more → rules_of_why (octets ++ more) ≡ found
found_is None octets more finds = finds
found_is (Some text) octets more finds = finds.0

module _ (counts : Bool) where
  -- Every input has an answer, or its code may be too long.
  pub some-why_text : (octets : List ℕ) → (answer : List ℕ) × (done : Done) × MayBeWhyText counts octets answer done
  some-why_text octets = found-answered (PrintsDecisions counts (lines_after (lines_of octets))) (rules_of_why octets) (λ text fault same. inr (inl (fault, same, refl, refl)))

  -- A fault answers the input, whatever cells follow.
  fault_answers : (found : Option (List ℕ)) (cells : List Line) (answer : List ℕ) (done : Done) → AnswersBy PrintsFault found answer done → AnswersBy (PrintsDecisions counts cells) found answer done
  fault_answers None cells answer done prints = prints
  fault_answers (Some text) cells answer done prints = inr prints

  pub faulty : (found : Option (List ℕ)) (octets more answer : List ℕ) (done : Done) → FindsTextOfRules found octets more → AnswersBy PrintsFault found answer done → IsWhyText counts (octets ++ more) answer done
  faulty found octets more answer done finds prints =
      subst (λ (f : Option (List ℕ)). AnswersBy (PrintsDecisions counts (lines_after (lines_of (octets ++ more)))) f answer done) (sym (found_is found octets more finds))
      (fault_answers found (lines_after (lines_of (octets ++ more))) answer done prints)

  -- So do the answers to the cells.
  pub decided : (found : Option (List ℕ)) (octets more answer : List ℕ) (placed_rules : PlacedRulesRead) (done : Done) → FindsTextOfRules found octets more → FindsRules found placed_rules
      → Prints why_rules 0 (first_world counts placed_rules) (lines_of more) answer done → IsWhyText counts (octets ++ more) answer done
  decided None octets more answer placed_rules done finds rules prints = let no : None ≡ Some rules.0 = rules.1 in absurd (cc)
  decided (Some text) octets more answer placed_rules done finds rules prints =
      let same : text ≡ rules.0 = let is : Some text ≡ Some rules.0 = rules.1 in cc in
      subst (λ (f : Option (List ℕ)). AnswersBy (PrintsDecisions counts (lines_after (lines_of (octets ++ more)))) f answer done) (sym (finds.0 ∙ rules.1))
      (inl (placed_rules, rules.2, rules.3, subst (λ (ls : List Line). Prints why_rules 0 (first_world counts placed_rules) ls answer done) (sym finds.1) prints))

  module _ (found : Option (List ℕ)) (before after : List ℕ) (takes : TakesRules found before after) where
    pub faulty_whole : (answer : List ℕ) (done : Done) → AnswersBy PrintsFault found answer done → IsWhyText counts before answer done
    faulty_whole answer done prints =
        subst (λ (t : List ℕ). IsWhyText counts t answer done) (sym takes.came) (faulty found takes.taken after answer done (takes.finds after (λ none. none)) prints)

    pub decided_whole : (placed_rules : PlacedRulesRead) (answer : List ℕ) (done : Done) → FindsRules found placed_rules → Prints why_rules 0 (first_world counts placed_rules) (lines_of after) answer done → IsWhyText counts before answer done
    decided_whole placed_rules answer done rules prints =
        subst (λ (t : List ℕ). IsWhyText counts t answer done) (sym takes.came) (decided found takes.taken after answer placed_rules done (takes.finds after (λ none. none)) rules prints)

    -- What was read is enough for the fault.
    pub faulty_enough : (answer : List ℕ) (done : Done) → AnswersBy PrintsFault found answer done → TakesEnough (λ octets. (text : List ℕ) × MayBeWhyText counts octets text done) most_ahead before after
    faulty_enough answer done prints =
        let none : length {A = ℕ} [] ≤ most_ahead = omega arith in (
          takes.taken ++ [],
          [],
          takes.came ∙ ap (λ (t : List ℕ). t ++ after) (sym (append-nil takes.taken)),
          none,
          (answer, inl (faulty found takes.taken [] answer done (takes.finds [] (λ none. refl)) prints)),
        )

    -- What was read after the text of the rules is enough for the cells.
    pub decided_enough : (placed_rules : PlacedRulesRead) (left : List ℕ) (done : Done) → FindsRules found placed_rules
        → TakesEnough (λ octets. (text : List ℕ) × Prints why_rules 0 (first_world counts placed_rules) (lines_of octets) text done) most_ahead after left
        → TakesEnough (λ octets. (text : List ℕ) × MayBeWhyText counts octets text done) most_ahead before left
    decided_enough placed_rules left done rules (needed, ahead, cut, small, (text, prints)) =
        let none_needed : after ≡ [] → needed ≡ [] = λ none. first_empty needed (ahead ++ left) (sym cut ∙ none) in (
          takes.taken ++ needed,
          ahead,
          takes.came ∙ ap (λ (t : List ℕ). takes.taken ++ t) cut ∙ sym (append_assoc takes.taken needed (ahead ++ left)),
          small,
          (text, inl (decided found takes.taken needed text placed_rules done (takes.finds needed none_needed) rules prints)),
        )
      where
        first_empty : (one other : List ℕ) → one ++ other ≡ [] → one ≡ []
        first_empty [] other e = refl
        first_empty (octet ∷ one) other e = cc

  -- The line of a fault is the answer.
  pub fault_added : (found : Option (List ℕ)) (before after old answers : List ℕ) → TakesRules found before after → old ≡ []
      → Adds (λ answer. AnswersBy PrintsFault found answer Ended) old answers → IsWhyText counts before answers Ended
  fault_added found before after old answers takes none (text, is, prints) =
      let same : answers ≡ text = is ∙ ap (λ (t : List ℕ). t ++ text) none in
      subst (λ (t : List ℕ). IsWhyText counts before t Ended) (sym same) (faulty_whole found before after takes text Ended prints)

  -- What was written of it is the beginning of a text.
  pub fault_begun : (before held held' answers : List ℕ) → IsWhyText counts before answers Ended → IsPart held held' answers → Adds (IsFront (MayBeWhyText counts before)) held held'
  fault_begun before held held' answers is (given, left, cut, grew) =
      (given, grew, (left, Ended, inl (subst (λ (t : List ℕ). IsWhyText counts before t Ended) cut is)))

  -- The answers to the cells are a text, and their beginning is the beginning of one.
  module _ (found : Option (List ℕ)) (before after : List ℕ) (takes : TakesRules found before after) (placed_rules : PlacedRulesRead) (rules : FindsRules found placed_rules) where
    pub decided_added : (held held' : List ℕ) (done : Done) → Adds (λ text. Prints why_rules 0 (first_world counts placed_rules) (lines_of after) text done) held held'
        → Adds (λ text. IsWhyText counts before text done) held held'
    decided_added held held' done (text, grew, prints) = (text, grew, decided_whole found before after takes placed_rules text done rules prints)

    pub decided_may : (held held' : List ℕ) (done : Done) → Adds (λ text. Prints why_rules 0 (first_world counts placed_rules) (lines_of after) text done) held held'
        → Adds (λ text. MayBeWhyText counts before text done) held held'
    decided_may held held' done added = let is = decided_added held held' done added in (is.0, is.1, inl is.2)

    pub decided_begun : (held held' : List ℕ) → Adds (IsFront (Prints why_rules 0 (first_world counts placed_rules) (lines_of after))) held held' → Adds (IsFront (MayBeWhyText counts before)) held held'
    decided_begun held held' (text, grew, (more, done, prints)) = (text, grew, (more, done, inl (decided_whole found before after takes placed_rules (text ++ more) done rules prints)))
