-- What is said of the whole file is written, or a front of it.
use Rattle.std.proofs.Common.{◌≡◌, ◌≢◌, ◌++◌, ℕ, List, [], Result, Ok, Err, refl, ap, sym, ◌∙◌, append-nil}
use Rattle.std.specs.Result.{OnErr}
use Rattle.captures_text.proofs.CaptureTexts.{a_front, not_read}
use Rattle.captures_text.proofs.Progresses.{if_done, if_given, on_fault, part_at}
use Rattle.text_io.proofs.Public.{at-result}
use Rattle.text_io.specs.Failures.{read_failures, write_failures}
use Rattle.text_io.specs.declared.ending.Done.{Done}
use Rattle.text_io.specs.declared.ending.Done.TheVariants.{Whole}
use Rattle.text_io.specs.declared.ending.RunFault.{RunFault}
use Rattle.text_io.specs.declared.ending.RunFault.TheVariants.{NoMemory, ReadFailed, WriteFailed}
use Rattle.cmd_fit.specs.LinksText.{IsLinksText}
use Rattle.cmd_fit.proofs.LinksOfOctets.{some_links}
use Rattle.cmd_fit.proofs.links.links_of_capture.Goals as goal

abbrev failed : RunFault → Result Done RunFault
failed fault = Err fault

-- A run that didn't fail at writing leaves the count of failures.
not_written : (fault : RunFault) (before : ℕ) → failed fault ≢ failed WriteFailed → before ≡ write_failures (failed fault) before
not_written ReadFailed before none = refl
not_written NoMemory before none = refl
not_written WriteFailed before none = absurd (none refl)

-- Writing fails by no reading.
only_written : (result : Result Done RunFault) → OnErr result (result ≡ Err WriteFailed) → result ≢ Err ReadFailed
only_written (Ok done) is = λ same. cc
only_written (Err fault) is = λ same. let bad : failed WriteFailed ≡ failed ReadFailed = sym is ∙ same in cc

pub returns-in-Err : goal.returns-in-Err
returns-in-Err g c = record {
  text = λ ki ko. tt;
  front = λ ki ko. ([], sym (append-nil (g.O.Output.held c.args.output.now)), some_links (g.I.Input.rest c.args.input.now));
  left = λ ki. tt;
  whole = λ ki same. cc;
  reading = c.add_text_of.ensures.read ∙ ap (λ (r : Result Done RunFault). read_failures r (g.I.Input.failures c.args.input.now)) c.in-Err.is;
  writing = not_written c.in-Err.fault (g.O.Output.failures c.args.output.now) (λ same. c.add_text_of.ensures.fault (c.in-Err.is ∙ same));
}

pub returns : goal.returns
returns g c =
    let done = c.in-Ok.done in
    let all = g.I.Input.rest c.args.input.now in
    let held = g.O.Output.held c.args.output.now in
    let waiting = c.add_text_of.new.answers.items in
    let before = g.I.Input.failures c.args.input.now in
    let grown = λ (text : List ℕ) (grew : waiting ≡ c.new-answers.result.items ++ text). grew ∙ ap (λ xs. xs ++ text) c.new-answers.ensures.items in
    let calm : g.I.Input.failures c.add_text_of.new.input ≡ before =
    c.add_text_of.ensures.read ∙ ap (λ (r : Result Done RunFault). read_failures r before) c.in-Ok.is in
    record {
      text = λ ki ko.
          let said = c.in-Ok.ensures.text ki in
          if_given c.give_last.result done _ _ c.give_last.ensures.done (c.give_last.ensures.given ko)
          (λ gives. (said.0, gives ∙ ap (λ xs. held ++ xs) (grown said.0 said.1), said.2));
      front = λ ki ko.
          let said = c.in-Ok.ensures.text ki in
          on_fault c.give_last.result _ _ (c.give_last.ensures.front ko)
          (λ part. a_front (IsLinksText all) held (g.O.Output.held c.give_last.new.output) said.0 done said.2
          (part_at held (g.O.Output.held c.give_last.new.output) waiting said.0 (grown said.0 said.1) part));
      left = λ ki. if_done c.give_last.result done _ c.give_last.ensures.done (c.in-Ok.ensures.left ki);
      whole = λ ki same.
          let is : Whole ≡ done = at-result c.give_last.result (λ value. value ≡ done) Whole same c.give_last.ensures.done in
          c.add_text_of.ensures.whole ki (c.in-Ok.is ∙ ap (λ d. Ok d) (sym is));
      reading = not_read c.give_last.result before (g.I.Input.failures c.add_text_of.new.input) (only_written c.give_last.result c.give_last.ensures.fault) calm;
      writing = c.give_last.ensures.writing;
    }
