-- Before the first write, the empty text is a prefix of some text.
use Rattle.std.proofs.Common.{ℕ, List, IfOk, OnErr, option_map, rules, subst, sym}
use Rattle.std.proofs.lemmas.Result.{IfOk-weaker, on_err_weaker}
use Rattle.text_io.specs.Devices.{Adds, TakesEnough}
use Rattle.text_io.specs.Gathered.{AnswersGathered, gathered}
use Rattle.text_io.specs.Limits.{most_ahead}
use Rattle.text_io.specs.Printing.{IsFront}
use Rattle.text_io.specs.declared.ending.Done.{Done}
use Rattle.text_io.proofs.GatheredLemmas.{enough-gathered, some-gathered, wider-gathered}
use Rattle.text_io.proofs.Public.{nothing-begins}
use Rattle.text_io.proofs.ServingLemmas.{adds-wider, front-wider}
use Rattle.text_io.proofs.whole_input.answer_whole.Goals as goal

pub returns-in-Err-clause-served : goal.returns-in-Err-clause-served
returns-in-Err-clause-served g c =
    let a = g.A.Answerer in
    let me = c.args.answerer.now in
    let found = gathered c.args.most (g.I.Input.rest c.args.input.now) in
    record {
      text = search rules;
      front = λ _ _. nothing-begins (AnswersGathered c.args.too_long.now (a.allows me) found) (g.O.Output.held c.args.output.now)
          (some-gathered c.args.too_long.now (a.allows me) (g.met.A.Answerer.is_total me) found);
      left = search rules;
      whole = search rules;
      reading = search rules;
      writing = search rules;
    }

pub returns-in-Err-answer_found-clause-served : goal.returns-in-Err-answer_found-clause-served
returns-in-Err-answer_found-clause-served g c =
    let a = g.A.Answerer in
    let me = c.args.answerer.now in
    let found = gathered c.args.most (g.I.Input.rest c.args.input.now) in
    record {
      text = search rules;
      front = λ _ _. nothing-begins (AnswersGathered c.args.too_long.now (a.allows me) found) (g.O.Output.held c.args.output.now)
          (some-gathered c.args.too_long.now (a.allows me) (g.met.A.Answerer.is_total me) found);
      left = search rules;
      whole = search rules;
      reading = search rules;
      writing = search rules;
    }

pub returns-clause-served : goal.returns-clause-served
returns-clause-served g c =
    let a = g.A.Answerer in
    let me = c.args.answerer.now in
    let wider = wider-gathered c.args.too_long.now (a.prints me) (a.allows me) (g.met.A.Answerer.is_wider me) in
    let octets = g.I.Input.rest c.args.input.now in
    let left = g.I.Input.rest c.gather.new.input in
    let before = g.O.Output.held c.args.output.now in
    let after = g.O.Output.held c.give_last.new.output in
    let One : List ℕ → Done → Type 0 = AnswersGathered c.args.too_long.now (a.prints me) (gathered c.args.most octets) in
    let Other : List ℕ → Done → Type 0 = AnswersGathered c.args.too_long.now (a.allows me) (gathered c.args.most octets) in
    let answered = c.in-Ok-answer_found.ensures in
    let text : g.I.Input.is_known → g.O.Output.is_known → IfOk c.give_last.result (λ done. Adds (λ text. One text done) before after) = search rules in
    let front : g.I.Input.is_known → g.O.Output.is_known → OnErr c.give_last.result (Adds (IsFront One) before after) = search rules in
    record {
      text = λ read written. IfOk-weaker c.give_last.result _ _
          (λ done. adds-wider (λ text. One text done) (λ text. Other text done) before after (λ text. wider (gathered c.args.most octets) text done)) (text read written);
      front = λ read written. on_err_weaker c.give_last.result (front-wider One Other before after (wider (gathered c.args.most octets))) (front read written);
      left = λ known.
          let found = option_map (λ octets. octets.items) c.in-Ok.found in
          let done = c.in-Ok-answer_found.done in
          let taken : TakesEnough (λ needed. (text : List ℕ) × AnswersGathered c.args.too_long.now (a.allows me) (gathered c.args.most needed) text done) most_ahead octets left =
          enough-gathered c.args.too_long.now (a.allows me) c.args.most octets left found answered.0 done
          (c.in-Ok.ensures.whole known) (c.in-Ok.ensures.left known) (wider found answered.0 done answered.2) in
          let P : Done → Type 0 = λ done. TakesEnough (λ needed. (text : List ℕ) × AnswersGathered c.args.too_long.now (a.allows me) (gathered c.args.most needed) text done) most_ahead octets left in
          IfOk-weaker c.give_last.result _ _ (λ done same. subst P (sym same) taken) c.give_last.ensures.done;
      whole = search rules;
      reading = search rules;
      writing = search rules;
    }
