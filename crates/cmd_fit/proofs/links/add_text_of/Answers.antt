-- Each end of a reading says a text of the whole file.
use Rattle.std.proofs.Common.{◌≡◌, ◌≢◌, ◌≤◌, ◌++◌, ℕ, List, [], Some, Result, Ok, Err, IfErr, length, drop, refl, ap, sym, ◌∙◌, subst, arith, append_assoc, append-nil}
use Rattle.std.proofs.lemmas.Result.{IfOk-weaker}
use Rattle.captures.proofs.Public.{file_opened, file_undecided, header_within}
use Rattle.captures.specs.Frames.{format_start}
use Rattle.captures.specs.Opening.{file_opening}
use Rattle.captures.specs.declared.fault.Fault.{Fault}
use Rattle.captures.specs.declared.opening.Opening.TheVariants.{Opened, Undecided, Refused}
use Rattle.captures_text.specs.CaptureFaults.{file_fault_line}
use Rattle.captures_text.specs.CaptureText.{short_fault}
use Rattle.captures_text.proofs.CaptureTexts.{all_needed}
use Rattle.captures_text.proofs.Progresses.{if_done, if_given}
use Rattle.text_io.proofs.Public.{at-result}
use Rattle.text_io.specs.Failures.{read_failures}
use Rattle.text_io.specs.Limits.{most_ahead}
use Rattle.text_io.specs.declared.ending.Done.{Done}
use Rattle.text_io.specs.declared.ending.Done.TheVariants.{Ended, Whole}
use Rattle.text_io.specs.declared.ending.RunFault.{RunFault}
use Rattle.text_io.specs.declared.ending.RunFault.TheVariants.{NoMemory, ReadFailed, WriteFailed}
use Rattle.cmd_fit.specs.LinkTallies.{LinksState, no_links}
use Rattle.cmd_fit.specs.LinksText.{IsLinksText, links_lines}
use Rattle.cmd_fit.specs.declared.links_reading.LinksReading.{LinksReading}
use Rattle.cmd_fit.proofs.LinksOfOctets.{opened_links, refused_links, short_links}
use Rattle.cmd_fit.proofs.links.add_text_of.Goals as goal

pub skip-requires : goal.skip-requires
skip-requires g c =
    let near = c.find_opening.new.window in
    let format = c.in-Ok-Opened.format in
    let is : file_opening near ≡ Opened format = sym c.in-Ok-Opened.ensures.opening ∙ c.in-Ok-Opened.field-0-is in
    let within : format_start format ≤ length near = header_within near format (file_opened near format is) in
    omega (arith, within, c.start.ensures)

pub returns-in-Ok-Refused-clause-text : goal.returns-in-Ok-Refused-clause-text
returns-in-Ok-Refused-clause-text g c = λ ki.
    let near = c.find_opening.new.window in
    let rest = g.I.Input.rest c.find_opening.new.input in
    let fault = c.in-Ok-Refused.fault in
    let line = file_fault_line fault in
    let is : file_opening near ≡ Refused fault = sym c.in-Ok-Refused.ensures.opening ∙ c.in-Ok-Refused.field-0-is in
    let printed = subst (λ (xs : List ℕ). IsLinksText xs line Ended) (sym (c.in-Ok-Refused.ensures.octets ki)) (refused_links near rest fault is (c.in-Ok-Refused.ensures.end ki)) in
    if_given c.refuse.result Ended _ _ c.refuse.ensures.done c.refuse.ensures.said (λ gives. (line, gives, printed))

pub returns-in-Ok-Refused-clause-left : goal.returns-in-Ok-Refused-clause-left
returns-in-Ok-Refused-clause-left g c = λ ki.
    let near = c.find_opening.new.window in
    let rest = g.I.Input.rest c.find_opening.new.input in
    let fault = c.in-Ok-Refused.fault in
    let line = file_fault_line fault in
    let is : file_opening near ≡ Refused fault = sym c.in-Ok-Refused.ensures.opening ∙ c.in-Ok-Refused.field-0-is in
    let here : IsLinksText near line Ended = subst (λ (xs : List ℕ). IsLinksText xs line Ended) (append-nil near) (refused_links near [] fault is (λ none. refl)) in
    if_done c.refuse.result Ended _ c.refuse.ensures.done
    (all_needed IsLinksText (g.I.Input.rest c.args.input.now) near rest line Ended (c.in-Ok-Refused.ensures.octets ki) here)

pub returns-in-Ok-Undecided-clause-left : goal.returns-in-Ok-Undecided-clause-left
returns-in-Ok-Undecided-clause-left g c = λ ki.
    let near = c.find_opening.new.window in
    let rest = g.I.Input.rest c.find_opening.new.input in
    let line = links_lines no_links (Some (short_fault near)) in
    let is : file_opening near ≡ Undecided = sym c.in-Ok-Undecided.ensures.opening ∙ c.in-Ok-Undecided.field-0-is in
    if_done c.finish.result Ended _ c.finish.ensures.done
    (all_needed IsLinksText (g.I.Input.rest c.args.input.now) near rest line Ended (c.in-Ok-Undecided.ensures.octets ki) (short_links near is))

pub returns-in-Ok-Opened-clause-text : goal.returns-in-Ok-Opened-clause-text
returns-in-Ok-Opened-clause-text g c = λ ki.
    let near = c.find_opening.new.window in
    let rest = g.I.Input.rest c.find_opening.new.input in
    let format = c.in-Ok-Opened.format in
    let made = c.new-in-Ok-Opened.ensures in
    let reading : LinksReading = record { window = c.skip.new.self; reader = c.new-in-Ok-Opened.result; table = c.new-in-Ok-Opened-2.result } in
    let is : file_opening near ≡ Opened format = sym c.in-Ok-Opened.ensures.opening ∙ c.in-Ok-Opened.field-0-is in
    let dropped : reading.window ≡ drop (format_start format) near = c.skip.ensures.octets ∙ ap (λ n. drop n near) c.start.ensures in
    IfOk-weaker c.read_on.result _ _
    (λ done said. (
      said.0,
      said.1,
      subst (λ (xs : List ℕ). IsLinksText xs said.0 done) (sym (c.in-Ok-Opened.ensures.octets ki))
          (opened_links reading format near is made.format made.count made.at c.new-in-Ok-Opened-2.ensures dropped rest said.0 done said.2),
    ))
    (c.read_on.ensures.text ki)

pub returns-in-Ok-Opened-clause-left : goal.returns-in-Ok-Opened-clause-left
returns-in-Ok-Opened-clause-left g c = λ ki.
    let near = c.find_opening.new.window in
    let rest = g.I.Input.rest c.read_on.new.input in
    let format = c.in-Ok-Opened.format in
    let made = c.new-in-Ok-Opened.ensures in
    let reading : LinksReading = record { window = c.skip.new.self; reader = c.new-in-Ok-Opened.result; table = c.new-in-Ok-Opened-2.result } in
    let is : file_opening near ≡ Opened format = sym c.in-Ok-Opened.ensures.opening ∙ c.in-Ok-Opened.field-0-is in
    let dropped : reading.window ≡ drop (format_start format) near = c.skip.ensures.octets ∙ ap (λ n. drop n near) c.start.ensures in
    let none : length {A = ℕ} [] ≤ most_ahead = omega arith in
    IfOk-weaker c.read_on.result _ _
    (λ done read. (
      near ++ read.0,
      [],
      c.in-Ok-Opened.ensures.octets ki ∙ ap (λ xs. near ++ xs) read.1 ∙ sym (append_assoc near read.0 rest),
      none,
      (read.2.0, opened_links reading format near is made.format made.count made.at c.new-in-Ok-Opened-2.ensures dropped read.0 read.2.0 done read.2.1),
    ))
    (c.read_on.ensures.left ki)

pub returns-in-Ok-Undecided-clause-text : goal.returns-in-Ok-Undecided-clause-text
returns-in-Ok-Undecided-clause-text g c = λ ki.
    let near = c.find_opening.new.window in
    let line = links_lines no_links (Some (short_fault near)) in
    let is : file_opening near ≡ Undecided = sym c.in-Ok-Undecided.ensures.opening ∙ c.in-Ok-Undecided.field-0-is in
    let none = c.in-Ok-Undecided.ensures.end ki (file_undecided near is) in
    let fault : c.short_fault-fault.result ≡ short_fault near = c.short_fault-fault.ensures ∙ ap (λ (xs : List ℕ). short_fault xs) c.octets.ensures in
    let printed = subst (λ (xs : List ℕ). IsLinksText xs line Ended)
    (sym (c.in-Ok-Undecided.ensures.octets ki ∙ ap (λ xs. near ++ xs) none ∙ append-nil near)) (short_links near is) in
    if_given c.finish.result Ended _ _ c.finish.ensures.done c.finish.ensures.said
    (λ gives. (
      line,
      gives ∙ ap (λ (t : LinksState). c.args.answers.now.items ++ links_lines t (Some c.short_fault-fault.result)) c.new-in-Ok-Undecided.ensures
          ∙ ap (λ (f : Fault). c.args.answers.now.items ++ links_lines no_links (Some f)) fault,
      printed,
    ))

-- A run that no device ends leaves the count of the input as it was.
unread : (result : Result Done RunFault) (before after : ℕ) → IfErr result (λ fault. fault ≡ NoMemory) → after ≡ before → after ≡ read_failures result before
unread (Ok done) before after only same = same
unread (Err ReadFailed) before after only same = cc
unread (Err WriteFailed) before after only same = same
unread (Err NoMemory) before after only same = same

-- Nor does it fail at the output.
unwritten : (result : Result Done RunFault) → IfErr result (λ fault. fault ≡ NoMemory) → result ≢ Err WriteFailed
unwritten (Ok done) only = λ same. cc
unwritten (Err ReadFailed) only = cc
unwritten (Err WriteFailed) only = cc
unwritten (Err NoMemory) only = λ same. cc

pub returns-in-Ok-Refused-clause-fault : goal.returns-in-Ok-Refused-clause-fault
returns-in-Ok-Refused-clause-fault g c = unwritten c.refuse.result c.refuse.ensures.fault

pub returns-in-Ok-Undecided-clause-fault : goal.returns-in-Ok-Undecided-clause-fault
returns-in-Ok-Undecided-clause-fault g c = unwritten c.finish.result c.finish.ensures.fault

pub returns-in-Ok-Opened-clause-fault : goal.returns-in-Ok-Opened-clause-fault
returns-in-Ok-Opened-clause-fault g c = c.read_on.ensures.fault

pub returns-in-Ok-Refused-clause-whole : goal.returns-in-Ok-Refused-clause-whole
returns-in-Ok-Refused-clause-whole g c = λ ki whole.
    let bad : Whole ≡ Ended = at-result c.refuse.result (λ done. done ≡ Ended) Whole whole c.refuse.ensures.done in cc

pub returns-in-Ok-Refused-clause-read : goal.returns-in-Ok-Refused-clause-read
returns-in-Ok-Refused-clause-read g c = unread c.refuse.result _ _ c.refuse.ensures.fault c.in-Ok-Refused.ensures.calm

pub returns-in-Ok-Undecided-clause-whole : goal.returns-in-Ok-Undecided-clause-whole
returns-in-Ok-Undecided-clause-whole g c = λ ki whole.
    let bad : Whole ≡ Ended = at-result c.finish.result (λ done. done ≡ Ended) Whole whole c.finish.ensures.done in cc

pub returns-in-Ok-Undecided-clause-read : goal.returns-in-Ok-Undecided-clause-read
returns-in-Ok-Undecided-clause-read g c = unread c.finish.result _ _ c.finish.ensures.fault c.in-Ok-Undecided.ensures.calm

pub returns-in-Ok-Opened-clause-whole : goal.returns-in-Ok-Opened-clause-whole
returns-in-Ok-Opened-clause-whole g c = c.read_on.ensures.whole

pub returns-in-Ok-Opened-clause-read : goal.returns-in-Ok-Opened-clause-read
returns-in-Ok-Opened-clause-read g c = c.read_on.ensures.read ∙ ap (λ n. read_failures c.read_on.result n) c.in-Ok-Opened.ensures.calm
