-- Before the first write, the empty text is a prefix of some answer. After it, what was given is the answer.
use Rattle.std.proofs.Common.{◌≡◌, ◌++◌, ℕ, List, Option, inl, option_map, rules, subst, sym, ap, ◌∙◌}
use Rattle.text_io.proofs.Public.{nothing-begins}
use Rattle.cmd_rules.proofs.Public.{some-rules_text}
use Rattle.cmd_rules.specs.RulesAnswers.{AnswersBy}
use Rattle.cmd_rules.specs.RulesText.{IsRulesText, MayBeRulesText, PrintsRules}
use Rattle.cmd_explain_rules.specs.HintComments.{MayBeHintComments, text_of_comments}
use Rattle.cmd_explain_rules.specs.inner.CommentsFound.{MayBeCommentsFound}
use Rattle.cmd_explain_rules.proofs.Enough.{enough}
use Rattle.cmd_explain_rules.proofs.HintedAnswers.{answer_given, front_given, left_given, may_enough, none_read, whatever, whole_read}
use Rattle.cmd_explain_rules.proofs.hinted_rules.compile_with_hints.Goals as goal

pub returns-in-Err-clause-served : goal.returns-in-Err-clause-served
returns-in-Err-clause-served g c =
    let octets = g.I.Input.rest c.args.input.now in
    record {
      text = search rules;
      front = λ _ _. nothing-begins (MayBeRulesText octets) (g.O.Output.held c.args.output.now) (some-rules_text octets);
      left = search rules;
      whole = search rules;
      reading = search rules;
      writing = search rules;
    }

pub returns-in-Err-answer_found-clause-served : goal.returns-in-Err-answer_found-clause-served
returns-in-Err-answer_found-clause-served g c =
    let octets = g.I.Input.rest c.args.input.now in
    record {
      text = search rules;
      front = λ _ _. nothing-begins (MayBeRulesText octets) (g.O.Output.held c.args.output.now) (some-rules_text octets);
      left = search rules;
      whole = search rules;
      reading = search rules;
      writing = search rules;
    }

pub returns-clause-served : goal.returns-clause-served
returns-clause-served g c =
    let octets = g.I.Input.rest c.args.input.now in
    let left = g.I.Input.rest c.gather.new.input in
    let held = g.O.Output.held c.args.output.now in
    let held' = g.O.Output.held c.give_last-ended.new.output in
    let done = c.in-Ok-answer_found.done in
    let found = option_map (λ text. text.items) c.in-Ok.found in
    let answers = c.answer_found.new.answers.items in
    let result = c.give_last-ended.result in
    let answered = c.in-Ok-answer_found.ensures in
    let text_is : answers ≡ answered.0 = answered.1 ∙ ap (λ (xs : List ℕ). xs ++ answered.0) c.new-answers.ensures.items in
    let prints : AnswersBy PrintsRules found answers done = subst (λ (xs : List ℕ). AnswersBy PrintsRules found xs done) (sym text_is) answered.2 in
    let text : g.I.Input.is_known → MayBeRulesText octets answers done =
    λ known. inl (subst (λ (f : Option (List ℕ)). AnswersBy PrintsRules f answers done) (c.in-Ok.ensures.whole known) prints) in
    record {
      text = λ known written. answer_given MayBeRulesText octets held held' answers done result c.give_last-ended.ensures.done
          (c.give_last-ended.ensures.given written) (text known);
      front = λ known written. front_given MayBeRulesText octets held held' answers done result (c.give_last-ended.ensures.front written) (text known);
      left = λ known. left_given MayBeRulesText octets left done result c.give_last-ended.ensures.done
          (may_enough IsRulesText MayBeRulesText octets left done (λ needed answer is. inl is)
          (enough PrintsRules octets left found answers done (c.in-Ok.ensures.whole known) (c.in-Ok.ensures.left known) prints));
      whole = λ known whole. whole_read found octets left answers done result c.give_last-ended.ensures.done prints (c.in-Ok.ensures.left known) whole;
      reading = c.in-Ok.ensures.reading ∙ sym (none_read result (g.I.Input.failures c.args.input.now) c.give_last-ended.ensures.fault);
      writing = c.give_last-ended.ensures.writing;
    }

pub returns-clause-printed : goal.returns-clause-printed
returns-clause-printed g c = λ known written.
    let octets = g.I.Input.rest c.args.input.now in
    let done = c.in-Ok-answer_found.done in
    let found = option_map (λ text. text.items) c.in-Ok.found in
    let answers = c.answer_found.new.answers.items in
    let answered = c.in-Ok-answer_found.ensures in
    let text_is : answers ≡ answered.0 = answered.1 ∙ ap (λ (xs : List ℕ). xs ++ answered.0) c.new-answers.ensures.items in
    let prints : AnswersBy PrintsRules found answers done = subst (λ (xs : List ℕ). AnswersBy PrintsRules found xs done) (sym text_is) answered.2 in
    answer_given IsRulesText octets (g.O.Output.held c.args.output.now) (g.O.Output.held c.give_last-ended.new.output) answers done c.give_last-ended.result
    c.give_last-ended.ensures.done (c.give_last-ended.ensures.given written)
    (subst (λ (f : Option (List ℕ)). AnswersBy PrintsRules f answers done) (c.in-Ok.ensures.whole known) prints)

pub returns-clause-hinted : goal.returns-clause-hinted
returns-clause-hinted g c = λ known.
    let octets = g.I.Input.rest c.args.input.now in
    let comments = text_of_comments c.comments_found.result in
    whatever (MayBeHintComments octets comments) c.give_last-ended.result
    (subst (λ (f : Option (List ℕ)). MayBeCommentsFound f comments) (c.in-Ok.ensures.whole known) c.comments_found.ensures)
