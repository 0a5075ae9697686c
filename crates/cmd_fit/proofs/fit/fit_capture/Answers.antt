-- The text is the answer to the rules' fault, or that of the capture.
use Rattle.std.proofs.Common.{◌≡◌, List, ℕ, [], Option, option_map, Result, Ok, Err, refl, subst}
use Rattle.captures_text.proofs.CaptureTexts.{a_front, all_needed, not_read}
use Rattle.captures_text.proofs.Progresses.{if_done, if_given, on_fault}
use Rattle.rules_text.specs.RulesRead.{RulesRead}
use Rattle.text_io.proofs.Public.{at-result, nothing-begins, served-wider}
use Rattle.text_io.specs.declared.ending.Done.TheVariants.{Ended, Whole}
use Rattle.cmd_fit.specs.FitAsked.{IsFitAsked, IsFitBy, scope_of}
use Rattle.cmd_fit.specs.FitText.{IsFitText}
use Rattle.cmd_fit.specs.RulesGiven.{rules_given}
use Rattle.cmd_fit.specs.declared.given_rules.GivenRules.{GivenRules}
use Rattle.cmd_fit.specs.inner.RulesHeld.{rules_held, rules_kept}
use Rattle.cmd_fit.proofs.AskedTexts.{some_asked}
use Rattle.cmd_fit.proofs.fit.fit_capture.Goals as goal

abbrev Read : Type 0
Read = Result (Option RulesRead) (List ℕ)

pub returns-in-Err : goal.returns-in-Err
returns-in-Err g c =
    let rules = option_map (λ text. text.now) c.args.rules in
    let all = g.I.Input.rest c.args.input.now in
    record {
      text = λ ki ko. tt;
      front = λ ki ko. nothing-begins (IsFitAsked c.args.choice rules all) (g.O.Output.held c.args.output.now) (some_asked c.args.choice rules all);
      left = λ ki. tt;
      whole = λ ki same. cc;
      reading = refl;
      writing = refl;
    }

pub returns-in-Ok-Faulty : goal.returns-in-Ok-Faulty
returns-in-Ok-Faulty g c =
    let all = g.I.Input.rest c.args.input.now in
    let line = c.in-Ok-Faulty.answer.items in
    let rules = option_map (λ text. text.now) c.args.rules in
    let IsText = IsFitAsked c.args.choice rules in
    let read : Err line ≡ rules_given rules =
    subst (λ (given : GivenRules). rules_kept given ≡ rules_given rules) c.in-Ok-Faulty.field-0-is c.in-Ok-Faulty.ensures in
    let printed : (octets : List ℕ) → IsText octets line Ended = λ octets.
    subst (λ (r : Read). IsFitBy c.args.choice r octets line Ended) read (refl, refl) in
    record {
      text = λ ki ko.
          if_given c.write_faults.result Ended _ _ c.write_faults.ensures.done (c.write_faults.ensures.given ko) (λ gives. (line, gives, printed all));
      front = λ ki ko.
          on_fault c.write_faults.result _ _ (c.write_faults.ensures.front ko)
          (λ part. a_front (IsText all) (g.O.Output.held c.args.output.now) (g.O.Output.held c.write_faults.new.output) line Ended (printed all) part);
      left = λ ki. if_done c.write_faults.result Ended _ c.write_faults.ensures.done (all_needed IsText all [] all line Ended refl (printed []));
      whole = λ ki same.
          let bad : Whole ≡ Ended = at-result c.write_faults.result (λ done. done ≡ Ended) Whole same c.write_faults.ensures.done in cc;
      reading = not_read c.write_faults.result _ _ c.write_faults.ensures.fault refl;
      writing = c.write_faults.ensures.writing;
    }

pub returns-in-Ok-Held : goal.returns-in-Ok-Held
returns-in-Ok-Held g c =
    let rules = option_map (λ text. text.now) c.args.rules in
    let read : Ok (rules_held c.in-Ok-Held.values) ≡ rules_given rules =
    subst (λ (given : GivenRules). rules_kept given ≡ rules_given rules) c.in-Ok-Held.field-0-is c.in-Ok-Held.ensures in
    served-wider (IsFitText (scope_of c.args.choice (rules_held c.in-Ok-Held.values)) c.args.choice.tick.nanoseconds c.args.choice.link c.args.choice.timing)
    (IsFitAsked c.args.choice rules)
    (λ octets text done printed. subst (λ (r : Read). IsFitBy c.args.choice r octets text done) read printed)
    g.I.Input c.args.input.now c.fit_cells.new.input g.O.Output c.args.output.now c.fit_cells.new.output c.fit_cells.result c.fit_cells.ensures
