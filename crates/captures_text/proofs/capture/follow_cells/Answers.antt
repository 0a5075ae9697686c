-- Each end of a run gives the promise of a call that answers a whole input.
use Rattle.std.proofs.Common.{Err, Some, ◌≡◌, ◌≤◌, ◌++◌, List, ℕ, [], length, drop, refl, ap, sym, ◌∙◌, subst, arith, append-nil}
use Rattle.std.proofs.lemmas.Result.{IfOk-weaker}
use Rattle.captures.proofs.Public.{file_opened, file_undecided, header_within}
use Rattle.captures.specs.Frames.{format_start, format_timed}
use Rattle.captures.specs.Opening.{file_opening}
use Rattle.captures.specs.declared.opening.Opening.TheVariants.{Opened, Undecided, Refused}
use Rattle.captures_text.specs.CaptureFaults.{file_fault_line}
use Rattle.captures_text.specs.CaptureText.{IsCaptureText, short_fault}
use Rattle.captures_text.specs.CellFilter.{FilterState, filter_start, filter_state}
use Rattle.captures_text.specs.declared.reading_ahead.ReadingAhead.{ReadingAhead}
use Rattle.captures_text.specs.declared.reading_summary.ReadingSummary.{ReadingSummary}
use Rattle.text_io.specs.Devices.{IsPart}
use Rattle.text_io.specs.Failures.{read_failures}
use Rattle.text_io.specs.declared.ending.Done.TheVariants.{Ended, Whole}
use Rattle.text_io.specs.declared.ending.RunFault.TheVariants.{NoMemory, ReadFailed}
use Rattle.text_io.proofs.Public.{at-result}
use Rattle.captures_text.proofs.CaptureTexts.{a_front, all_needed, no_front, not_read, opened_enough, opened_text, refused_text, served_from, short_text}
use Rattle.captures_text.proofs.Progresses.{if_done, if_given, on_fault}
use Rattle.captures_text.proofs.capture.follow_cells.Goals as goal

pub returns-in_default : goal.returns-in_default
returns-in_default g c = λ world sound is_shown.
    let rules = g.F.CellFollower.rules in
    let first = filter_state c.new-filter.result in
    served_from rules first (filter_start c.args.tick.nanoseconds c.args.link c.args.timing) world g.I.Input g.O.Output c.args.input.now c.args.input.now c.args.output.now c.args.output.now
    (Err NoMemory) c.new-filter.ensures
    (record {
      text = λ ki ko. tt;
      front = λ ki ko. no_front rules c.answers_each_cell.ensures first world (g.I.Input.rest c.args.input.now) (g.O.Output.held c.args.output.now) sound;
      left = λ ki. tt;
      whole = λ ki same. cc;
      reading = refl;
      writing = refl;
    })

pub skip-requires : goal.skip-requires
skip-requires g c =
    let is : file_opening c.find_opening.new.window ≡ Opened c.in-Ok-Opened.format = sym c.in-Ok-Opened.ensures.opening ∙ c.in-Ok-Opened.field-0-is in
    let within : format_start c.in-Ok-Opened.format ≤ length c.find_opening.new.window = header_within c.find_opening.new.window c.in-Ok-Opened.format (file_opened c.find_opening.new.window c.in-Ok-Opened.format is) in
    omega (arith, within, c.start.ensures)

pub returns-in-Err : goal.returns-in-Err
returns-in-Err g c = λ world sound is_shown.
    let rules = g.F.CellFollower.rules in
    let first = filter_state c.new-filter.result in
    served_from rules first (filter_start c.args.tick.nanoseconds c.args.link c.args.timing) world g.I.Input g.O.Output c.args.input.now c.find_opening.new.input c.args.output.now c.args.output.now
    (Err ReadFailed) c.new-filter.ensures
    (record {
      text = λ ki ko. tt;
      front = λ ki ko. no_front rules c.answers_each_cell.ensures first world (g.I.Input.rest c.args.input.now) (g.O.Output.held c.args.output.now) sound;
      left = λ ki. tt;
      whole = λ ki same. cc;
      reading = c.in-Err.ensures.failed;
      writing = refl;
    })

pub returns-in-Ok-Refused : goal.returns-in-Ok-Refused
returns-in-Ok-Refused g c = λ world sound is_shown.
    let rules = g.F.CellFollower.rules in
    let first = filter_state c.new-filter.result in
    let all = g.I.Input.rest c.args.input.now in
    let near = c.find_opening.new.window in
    let rest = g.I.Input.rest c.find_opening.new.input in
    let fault = c.in-Ok-Refused.fault in
    let line = file_fault_line fault in
    let IsText = IsCaptureText rules first world in
    let is : file_opening near ≡ Refused fault = sym c.in-Ok-Refused.ensures.opening ∙ c.in-Ok-Refused.field-0-is in
    let printed : g.I.Input.is_known → IsText all line Ended =
    λ ki. subst (λ (xs : List ℕ). IsText xs line Ended) (sym (c.in-Ok-Refused.ensures.octets ki)) (refused_text rules first world near rest fault is (c.in-Ok-Refused.ensures.end ki))
    in
    let here : IsText near line Ended =
    subst (λ (xs : List ℕ). IsText xs line Ended) (append-nil near) (refused_text rules first world near [] fault is (λ none. refl))
    in
    served_from rules first (filter_start c.args.tick.nanoseconds c.args.link c.args.timing) world g.I.Input g.O.Output c.args.input.now c.find_opening.new.input c.args.output.now c.refuse.new.output
    c.refuse.result c.new-filter.ensures
    (record {
      text = λ ki ko. if_given c.refuse.result Ended _ _ c.refuse.ensures.done (c.refuse.ensures.given ko) (λ gives. (line, gives, printed ki));
      front = λ ki ko.
          on_fault c.refuse.result _ _ (c.refuse.ensures.front ko)
          (λ part. a_front (IsText all) (g.O.Output.held c.args.output.now) (g.O.Output.held c.refuse.new.output) line Ended (printed ki) part);
      left = λ ki. if_done c.refuse.result Ended _ c.refuse.ensures.done (all_needed IsText all near rest line Ended (c.in-Ok-Refused.ensures.octets ki) here);
      whole = λ ki same. let bad : Whole ≡ Ended = at-result c.refuse.result (λ done. done ≡ Ended) Whole same c.refuse.ensures.done in cc;
      reading = not_read c.refuse.result _ _ c.refuse.ensures.fault c.in-Ok-Refused.ensures.calm;
      writing = c.refuse.ensures.writing;
    })

pub returns-in-Ok-Undecided : goal.returns-in-Ok-Undecided
returns-in-Ok-Undecided g c = λ world sound is_shown.
    let rules = g.F.CellFollower.rules in
    let first = filter_state c.new-filter.result in
    let all = g.I.Input.rest c.args.input.now in
    let near = c.find_opening.new.window in
    let rest = g.I.Input.rest c.find_opening.new.input in
    let octets = c.octets.result.now in
    let here = rules.closes world first.summary (Some (short_fault octets)) in
    let IsText = IsCaptureText rules first world in
    let same : octets ≡ near = c.octets.ensures in
    let is : file_opening octets ≡ Undecided = ap file_opening same ∙ sym c.in-Ok-Undecided.ensures.opening ∙ c.in-Ok-Undecided.field-0-is in
    let at_end : g.I.Input.is_known → rest ≡ [] = λ ki. c.in-Ok-Undecided.ensures.end ki (file_undecided near (sym c.in-Ok-Undecided.ensures.opening ∙ c.in-Ok-Undecided.field-0-is)) in
    let whole : g.I.Input.is_known → all ≡ octets =
    λ ki. c.in-Ok-Undecided.ensures.octets ki ∙ ap (λ xs. near ++ xs) (at_end ki) ∙ append-nil near ∙ sym same
    in
    let short : IsText octets here Ended = short_text rules first world octets is in
    let printed : g.I.Input.is_known → IsText all here Ended = λ ki. subst (λ (xs : List ℕ). IsText xs here Ended) (sym (whole ki)) short in
    served_from rules first (filter_start c.args.tick.nanoseconds c.args.link c.args.timing) world g.I.Input g.O.Output c.args.input.now c.find_opening.new.input c.args.output.now c.close_short.new.output
    c.close_short.result c.new-filter.ensures
    (record {
      text = λ ki ko. if_given c.close_short.result Ended _ _ c.close_short.ensures.done (c.close_short.ensures.given ko)
          (λ gives. (here, gives world sound is_shown ∙ ap (λ (p : ReadingSummary). g.O.Output.held c.args.output.now ++ g.F.CellFollower.rules.closes world p (Some (short_fault octets))) c.summary.ensures, printed ki));
      front = λ ki ko.
          on_fault c.close_short.result _ _ (c.close_short.ensures.front ko)
          (λ part. a_front (IsText all) (g.O.Output.held c.args.output.now) (g.O.Output.held c.close_short.new.output) here Ended (printed ki)
          (subst (λ (p : ReadingSummary). IsPart (g.O.Output.held c.args.output.now) (g.O.Output.held c.close_short.new.output)
          (g.F.CellFollower.rules.closes world p (Some (short_fault octets)))) c.summary.ensures (part world sound is_shown)));
      left = λ ki.
          if_done c.close_short.result Ended _ c.close_short.ensures.done
          (all_needed IsText all octets rest here Ended (whole ki ∙ sym (append-nil octets) ∙ ap (λ xs. octets ++ xs) (sym (at_end ki))) short);
      whole = λ ki ended. at_end ki;
      reading = not_read c.close_short.result _ _ c.close_short.ensures.fault c.in-Ok-Undecided.ensures.calm;
      writing = c.close_short.ensures.writing;
    })

pub returns-in-Ok-Opened : goal.returns-in-Ok-Opened
returns-in-Ok-Opened g c = λ world sound is_shown.
    let rules = g.F.CellFollower.rules in
    let first = filter_state c.new-filter.result in
    let all = g.I.Input.rest c.args.input.now in
    let near = c.find_opening.new.window in
    let rest = g.I.Input.rest c.find_opening.new.input in
    let format = c.in-Ok-Opened.format in
    let reader = c.new-in-Ok-Opened.result in
    let made = c.new-in-Ok-Opened.ensures in
    let reading : ReadingAhead = record { window = c.skip.new.self; reader = reader; filter = c.new-filter.result } in
    let IsText = IsCaptureText rules first world in
    let is : file_opening near ≡ Opened format = sym c.in-Ok-Opened.ensures.opening ∙ c.in-Ok-Opened.field-0-is in
    let formats : reader.format ≡ format_timed first.timing format =
    made.format ∙ c.timed_by.ensures.format ∙ ap (λ (state : FilterState). format_timed state.timing format) (sym c.new-filter.ensures)
    in
    let places : reader.at ≡ format_start format = made.at ∙ c.timed_by.ensures.start in
    let dropped : reading.window ≡ drop (format_start format) near = c.skip.ensures.octets ∙ ap (λ n. drop n near) c.start.ensures in
    served_from rules first (filter_start c.args.tick.nanoseconds c.args.link c.args.timing) world g.I.Input g.O.Output c.args.input.now c.follow_on.new.input c.args.output.now c.follow_on.new.output
    c.follow_on.result c.new-filter.ensures
    (record {
      text = λ ki ko.
          IfOk-weaker c.follow_on.result _ _
          (λ done each.
          let adds = each world sound is_shown in (
            adds.0,
            adds.1,
            subst (λ (xs : List ℕ). IsText xs adds.0 done) (sym (c.in-Ok-Opened.ensures.octets ki))
                (opened_text rules world reading format near is formats made.count places dropped rest adds.0 done adds.2),
          ))
          (c.follow_on.ensures.text ki ko);
      front = λ ki ko.
          on_fault c.follow_on.result _ _ (c.follow_on.ensures.front ki ko)
          (λ each.
          let front = each world sound is_shown in (
            front.0,
            front.1,
            (
              front.2.0,
              front.2.1,
              subst (λ (xs : List ℕ). IsText xs (front.0 ++ front.2.0) front.2.1) (sym (c.in-Ok-Opened.ensures.octets ki))
                  (opened_text rules world reading format near is formats made.count places dropped rest (front.0 ++ front.2.0) front.2.1 front.2.2),
            ),
          ));
      left = λ ki.
          IfOk-weaker c.follow_on.result _ _
          (λ done each. opened_enough rules world reading format all near rest (g.I.Input.rest c.follow_on.new.input) done
          is formats made.count places dropped (c.in-Ok-Opened.ensures.octets ki) (each world sound is_shown))
          (c.follow_on.ensures.left ki);
      whole = c.follow_on.ensures.whole;
      reading = c.follow_on.ensures.read ∙ ap (read_failures c.follow_on.result) c.in-Ok-Opened.ensures.calm;
      writing = c.follow_on.ensures.written;
    })
