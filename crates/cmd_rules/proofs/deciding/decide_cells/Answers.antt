-- The text of the rules, and then their fault or the answers to the cells.
use Rattle.std.proofs.Common.{◌≡◌, ◌∙◌, option_map, inl, refl, sym, rules, ap}
use Rattle.std.proofs.lemmas.Result.{IfOk-weaker, on_err_weaker}
use Rattle.rules_text.specs.RulesInMemory.{placed_rules_read}
use Rattle.text_io.specs.Devices.{Adds}
use Rattle.text_io.specs.Failures.{read_failures}
use Rattle.text_io.specs.declared.ending.Done.TheVariants.{Ended, Whole}
use Rattle.text_io.proofs.Public.{at-done, at-fault, at-given, at-result, nothing-begins}
use Rattle.cmd_rules.specs.RulesAnswers.{AnswersBy, PrintsFault}
use Rattle.cmd_rules.specs.WhyText.{IsWhyText, MayBeWhyText, first_world}
use Rattle.cmd_rules.specs.inner.Places.{FindsRules}
use Rattle.cmd_rules.proofs.WhyAnswers.{decided_added, decided_begun, decided_enough, decided_may, fault_added, fault_begun, faulty_enough, some-why_text}
use Rattle.cmd_rules.proofs.deciding.decide_cells.Goals as goal

pub returns-in-Err-clause-served : goal.returns-in-Err-clause-served
returns-in-Err-clause-served g c =
    let octets = g.I.Input.rest c.args.input.now in
    record {
      text = search rules;
      front = λ _ _. nothing-begins (MayBeWhyText c.args.count octets) (g.O.Output.held c.args.output.now) (some-why_text c.args.count octets);
      left = search rules;
      whole = search rules;
      reading = search rules;
      writing = search rules;
    }

pub returns-in-Err-found_decider-clause-served : goal.returns-in-Err-found_decider-clause-served
returns-in-Err-found_decider-clause-served g c =
    let octets = g.I.Input.rest c.args.input.now in
    record {
      text = search rules;
      front = λ _ _. nothing-begins (MayBeWhyText c.args.count octets) (g.O.Output.held c.args.output.now) (some-why_text c.args.count octets);
      left = search rules;
      whole = search rules;
      reading = search rules;
      writing = search rules;
    }

pub returns-in-Ok-None-clause-served : goal.returns-in-Ok-None-clause-served
returns-in-Ok-None-clause-served g c =
    let before = g.I.Input.rest c.args.input.now in
    let after = g.I.Input.rest c.read_rules_before.new.input in
    let held = g.O.Output.held c.args.output.now in
    let held' = g.O.Output.held c.give_last.new.output in
    let found = option_map (λ text. text.items) c.in-Ok.found in
    let answers = c.found_decider.new.answers.items in
    let added : Adds (λ answer. AnswersBy PrintsFault found answer Ended) c.new-answers.result.items answers = rw c.in-Ok-None.field-0-is at c.in-Ok-None.ensures in
    let is : g.I.Input.is_known → IsWhyText c.args.count before answers Ended =
    λ known. fault_added c.args.count found before after c.new-answers.result.items answers (c.in-Ok.ensures.taken known) c.new-answers.ensures.items added in
    record {
      text = λ known held_known. at-given c.give_last.result Ended _ _ c.give_last.ensures.done (c.give_last.ensures.given held_known) (λ given. (answers, given, inl (is known)));
      front = λ known held_known. at-fault c.give_last.result _ _ (c.give_last.ensures.front held_known) (fault_begun c.args.count before held held' answers (is known));
      left = λ known. at-done c.give_last.result Ended _ c.give_last.ensures.done (faulty_enough c.args.count found before after (c.in-Ok.ensures.taken known) added.0 Ended added.2);
      whole = λ known e. let no : Whole ≡ Ended = at-result c.give_last.result _ Whole e c.give_last.ensures.done in absurd (cc);
      reading = search rules;
      writing = search rules;
    }

pub returns-in-Ok-None-clause-printed : goal.returns-in-Ok-None-clause-printed
returns-in-Ok-None-clause-printed g c = λ known held_known.
    let before = g.I.Input.rest c.args.input.now in
    let after = g.I.Input.rest c.read_rules_before.new.input in
    let found = option_map (λ text. text.items) c.in-Ok.found in
    let answers = c.found_decider.new.answers.items in
    let added : Adds (λ answer. AnswersBy PrintsFault found answer Ended) c.new-answers.result.items answers = rw c.in-Ok-None.field-0-is at c.in-Ok-None.ensures in
    at-given c.give_last.result Ended _ _ c.give_last.ensures.done (c.give_last.ensures.given held_known)
    (λ given. (answers, given, fault_added c.args.count found before after c.new-answers.result.items answers (c.in-Ok.ensures.taken known) c.new-answers.ensures.items added))

pub returns-clause-served : goal.returns-clause-served
returns-clause-served g c =
    let before = g.I.Input.rest c.args.input.now in
    let after = g.I.Input.rest c.read_rules_before.new.input in
    let left = g.I.Input.rest c.answer_lines.new.input in
    let held = g.O.Output.held c.args.output.now in
    let held' = g.O.Output.held c.answer_lines.new.output in
    let found = option_map (λ text. text.items) c.in-Ok.found in
    let placed_rules = placed_rules_read c.in-Ok-Some.decider.placed_rules in
    let answered = rw c.in-Ok-Some.field-0-is at c.in-Ok-Some.ensures in
    let finds : FindsRules found placed_rules = answered.1 in
    record {
      text = λ known held_known. IfOk-weaker c.answer_lines.result _ _
          (λ done each. decided_may c.args.count found before after (c.in-Ok.ensures.taken known) placed_rules finds held held' done (each (first_world c.args.count placed_rules) tt (refl, sym c.counts_if-counts.ensures.asked, c.counts_if-counts.ensures.empty)))
          (c.answer_lines.ensures.text known held_known);
      front = λ known held_known. on_err_weaker c.answer_lines.result
          (λ each. decided_begun c.args.count found before after (c.in-Ok.ensures.taken known) placed_rules finds held held' (each (first_world c.args.count placed_rules) tt (refl, sym c.counts_if-counts.ensures.asked, c.counts_if-counts.ensures.empty)))
          (c.answer_lines.ensures.front known held_known);
      left = λ known. IfOk-weaker c.answer_lines.result _ _
          (λ done each. decided_enough c.args.count found before after (c.in-Ok.ensures.taken known) placed_rules left done finds (each (first_world c.args.count placed_rules) tt (refl, sym c.counts_if-counts.ensures.asked, c.counts_if-counts.ensures.empty)))
          (c.answer_lines.ensures.left known);
      whole = c.answer_lines.ensures.whole;
      reading = c.answer_lines.ensures.reading ∙ ap (read_failures c.answer_lines.result) c.in-Ok.ensures.reading;
      writing = c.answer_lines.ensures.writing;
    }

pub returns-clause-printed : goal.returns-clause-printed
returns-clause-printed g c = λ known held_known.
    let before = g.I.Input.rest c.args.input.now in
    let after = g.I.Input.rest c.read_rules_before.new.input in
    let held = g.O.Output.held c.args.output.now in
    let held' = g.O.Output.held c.answer_lines.new.output in
    let found = option_map (λ text. text.items) c.in-Ok.found in
    let placed_rules = placed_rules_read c.in-Ok-Some.decider.placed_rules in
    let answered = rw c.in-Ok-Some.field-0-is at c.in-Ok-Some.ensures in
    IfOk-weaker c.answer_lines.result _ _
    (λ done each. decided_added c.args.count found before after (c.in-Ok.ensures.taken known) placed_rules answered.1 held held' done (each (first_world c.args.count placed_rules) tt (refl, sym c.counts_if-counts.ensures.asked, c.counts_if-counts.ensures.empty)))
    (c.answer_lines.ensures.text known held_known)
