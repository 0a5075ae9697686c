-- Before the first write, the empty text is a prefix of some answer. After it, the finding that was given is that of the answer.
use Rattle.std.proofs.Common.{◌≡◌, ◌++◌, ℕ, List, Option, option_map, rules, subst, sym, ap, ◌∙◌}
use Rattle.text_io.proofs.Public.{nothing-begins}
use Rattle.cmd_differ.specs.UnusedText.{IsUnusedAnswer, IsUnusedText, PrintsUnused}
use Rattle.cmd_differ.proofs.Served.{done_whole, front_given, left_given, none_read, printed_given, text_given}
use Rattle.cmd_differ.proofs.UnusedAnswers.{some_unused, unused_enough, unused_whole}
use Rattle.cmd_differ.proofs.searching.unused_in_text.Goals as goal

pub returns-in-Err-clause-served : goal.returns-in-Err-clause-served
returns-in-Err-clause-served g c =
    let octets = g.I.Input.rest c.args.input.now in
    record {
      text = search rules;
      front = λ _ _. nothing-begins (IsUnusedAnswer octets) (g.O.Output.held c.args.output.now) (some_unused octets);
      left = search rules;
      whole = search rules;
      reading = search rules;
      writing = search rules;
    }

pub returns-in-Err-add_unused_of-clause-served : goal.returns-in-Err-add_unused_of-clause-served
returns-in-Err-add_unused_of-clause-served g c =
    let octets = g.I.Input.rest c.args.input.now in
    record {
      text = search rules;
      front = λ _ _. nothing-begins (IsUnusedAnswer octets) (g.O.Output.held c.args.output.now) (some_unused octets);
      left = search rules;
      whole = search rules;
      reading = search rules;
      writing = search rules;
    }

pub returns-clause-served : goal.returns-clause-served
returns-clause-served g c =
    let octets = g.I.Input.rest c.args.input.now in
    let left = g.I.Input.rest c.gather.new.input in
    let held = g.O.Output.held c.args.output.now in
    let held' = g.O.Output.held c.give_finding.new.output in
    let finding = c.in-Ok-add_unused_of.finding in
    let found = option_map (λ text. text.items) c.in-Ok.found in
    let answers = c.add_unused_of.new.answers.items in
    let result = c.give_finding.result in
    let answered = c.in-Ok-add_unused_of.ensures in
    let text_is : answers ≡ answered.0 = answered.1 ∙ ap (λ xs. xs ++ answered.0) c.new-answers.ensures.items in
    let prints : PrintsUnused found answers finding = subst (λ xs. PrintsUnused found xs finding) (sym text_is) answered.2 in
    let text : g.I.Input.is_known → IsUnusedText octets answers finding =
    λ known. subst (λ (f : Option (List ℕ)). PrintsUnused f answers finding) (c.in-Ok.ensures.whole known) prints in
    record {
      text = λ known written. text_given IsUnusedText octets held held' result
          (printed_given IsUnusedText octets held held' answers finding result c.give_finding.ensures.found (c.give_finding.ensures.given written) (text known));
      front = λ known written. front_given IsUnusedText octets held held' answers finding result (c.give_finding.ensures.front written) (text known);
      left = λ known. left_given IsUnusedText octets left finding result c.give_finding.ensures.found
          (unused_enough octets left found answers finding (c.in-Ok.ensures.whole known) (c.in-Ok.ensures.left known) prints);
      whole = λ known e. unused_whole found octets left answers finding (done_whole finding result c.give_finding.ensures.found e) prints (c.in-Ok.ensures.left known);
      reading = c.in-Ok.ensures.reading ∙ sym (none_read result (g.I.Input.failures c.args.input.now) c.give_finding.ensures.fault);
      writing = c.give_finding.ensures.writing;
    }

pub returns-clause-printed : goal.returns-clause-printed
returns-clause-printed g c = λ known written.
    let octets = g.I.Input.rest c.args.input.now in
    let finding = c.in-Ok-add_unused_of.finding in
    let found = option_map (λ text. text.items) c.in-Ok.found in
    let answers = c.add_unused_of.new.answers.items in
    let answered = c.in-Ok-add_unused_of.ensures in
    let text_is : answers ≡ answered.0 = answered.1 ∙ ap (λ xs. xs ++ answered.0) c.new-answers.ensures.items in
    let prints : PrintsUnused found answers finding = subst (λ xs. PrintsUnused found xs finding) (sym text_is) answered.2 in
    let text : IsUnusedText octets answers finding = subst (λ (f : Option (List ℕ)). PrintsUnused f answers finding) (c.in-Ok.ensures.whole known) prints in
    printed_given IsUnusedText octets (g.O.Output.held c.args.output.now) (g.O.Output.held c.give_finding.new.output) answers finding c.give_finding.result
    c.give_finding.ensures.found (c.give_finding.ensures.given written) text
