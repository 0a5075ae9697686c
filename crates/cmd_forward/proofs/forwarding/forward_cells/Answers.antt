-- Each end of a run gives the promise of a call that answers a whole input, and reports of it.
use Rattle.std.proofs.Common.{Err, Option, Some, ◌≡◌, ◌≤◌, ◌++◌, List, ℕ, [], length, drop, refl, ap, sym, ◌∙◌, subst, arith, append-nil}
use Rattle.std.proofs.lemmas.Result.{IfOk-weaker}
use Rattle.captures.proofs.Public.{file_opened, file_undecided, header_within}
use Rattle.captures.specs.Frames.{format_start}
use Rattle.captures.specs.Opening.{file_opening, opening_of}
use Rattle.captures.specs.declared.fault.Fault.{Fault}
use Rattle.captures.specs.declared.opening.Opening.TheVariants.{Opened, Undecided, Refused}
use Rattle.captures.specs.declared.packet_time.TimeSource.TheVariants as source
use Rattle.captures_text.specs.CaptureFaults.{file_fault_line}
use Rattle.captures_text.specs.CaptureText.{short_fault}
use Rattle.captures_text.specs.CellFilter.{filter_start, filter_state}
use Rattle.captures_text.specs.declared.reading_summary.ReadingSummary.{ReadingSummary}
use Rattle.captures_text.proofs.Progresses.{on_fault}
use Rattle.text_io.specs.Failures.{read_failures}
use Rattle.text_io.specs.declared.ending.Done.TheVariants.{Ended}
use Rattle.text_io.specs.declared.ending.RunFault.TheVariants.{NoMemory, ReadFailed}
use Rattle.cmd_forward.specs.Forwarding.{ForwardsCapture}
use Rattle.cmd_forward.specs.declared.stepping.ForwardReading.{ForwardReading}
use Rattle.cmd_forward.specs.inner.ForwardSteps.{at_state}
use Rattle.cmd_forward.proofs.WholeForwarding.{opened_enough, opened_text, refused_text, served_from, served_nothing, served_report, short_text, some_text}
use Rattle.cmd_forward.proofs.forwarding.forward_cells.Goals as goal

pub returns-in_default : goal.returns-in_default
returns-in_default g c = λ world sound is_shown.
    let rules = g.J.CellJudge.rules in
    let first = filter_state c.new-filter.result in
    let state = at_state first world in
    served_from rules c.args.others first (filter_start c.args.tick.nanoseconds c.args.link source.Record) world g.I.Input g.O.Output c.args.input.now c.args.input.now
    c.args.output.now c.args.output.now c.args.report.now.items c.args.report.now.items (Err NoMemory) c.new-filter.ensures
    (served_nothing g.I.Input g.O.Output c.args.input.now c.args.input.now c.args.output.now c.args.report.now.items c.args.report.now.items
    (ForwardsCapture rules c.args.others state) NoMemory
    (some_text rules c.judges_each_cell.ensures c.args.others state (g.I.Input.rest c.args.input.now) sound) refl refl)

pub skip-requires : goal.skip-requires
skip-requires g c =
    let is : file_opening c.find_opening.new.window ≡ Opened c.in-Ok-Opened.format = sym c.in-Ok-Opened.ensures.opening ∙ c.in-Ok-Opened.field-0-is in
    let within : format_start c.in-Ok-Opened.format ≤ length c.find_opening.new.window = header_within c.find_opening.new.window c.in-Ok-Opened.format (file_opened c.find_opening.new.window c.in-Ok-Opened.format is) in
    omega (arith, within, c.start.ensures)

pub returns-in-Err : goal.returns-in-Err
returns-in-Err g c = λ world sound is_shown.
    let rules = g.J.CellJudge.rules in
    let first = filter_state c.new-filter.result in
    let state = at_state first world in
    served_from rules c.args.others first (filter_start c.args.tick.nanoseconds c.args.link source.Record) world g.I.Input g.O.Output c.args.input.now c.find_opening.new.input
    c.args.output.now c.args.output.now c.args.report.now.items c.args.report.now.items (Err ReadFailed) c.new-filter.ensures
    (served_nothing g.I.Input g.O.Output c.args.input.now c.find_opening.new.input c.args.output.now c.args.report.now.items c.args.report.now.items
    (ForwardsCapture rules c.args.others state) ReadFailed
    (some_text rules c.judges_each_cell.ensures c.args.others state (g.I.Input.rest c.args.input.now) sound) c.in-Err.ensures.failed refl)

pub returns-in-Err-add_file_fault : goal.returns-in-Err-add_file_fault
returns-in-Err-add_file_fault g c = λ world sound is_shown.
    let rules = g.J.CellJudge.rules in
    let first = filter_state c.new-filter.result in
    let state = at_state first world in
    let said' = c.add_file_fault.new.answers.items in
    served_from rules c.args.others first (filter_start c.args.tick.nanoseconds c.args.link source.Record) world g.I.Input g.O.Output c.args.input.now c.find_opening.new.input
    c.args.output.now c.args.output.now c.args.report.now.items said' (Err NoMemory) c.new-filter.ensures
    (served_nothing g.I.Input g.O.Output c.args.input.now c.find_opening.new.input c.args.output.now c.args.report.now.items said'
    (ForwardsCapture rules c.args.others state) NoMemory
    (some_text rules c.judges_each_cell.ensures c.args.others state (g.I.Input.rest c.args.input.now) sound) c.in-Ok-Refused.ensures.calm refl)

pub returns-in-Ok-Refused : goal.returns-in-Ok-Refused
returns-in-Ok-Refused g c = λ world sound is_shown.
    let rules = g.J.CellJudge.rules in
    let first = filter_state c.new-filter.result in
    let state = at_state first world in
    let near = c.find_opening.new.window in
    let rest = g.I.Input.rest c.find_opening.new.input in
    let fault = c.in-Ok-Refused.fault in
    let line = file_fault_line fault in
    let said' = c.add_file_fault.new.answers.items in
    let IsText = ForwardsCapture rules c.args.others state in
    let is : file_opening near ≡ Refused fault = sym c.in-Ok-Refused.ensures.opening ∙ c.in-Ok-Refused.field-0-is in
    served_from rules c.args.others first (filter_start c.args.tick.nanoseconds c.args.link source.Record) world g.I.Input g.O.Output c.args.input.now c.find_opening.new.input
    c.args.output.now c.args.output.now c.args.report.now.items said' _ c.new-filter.ensures
    (served_report g.I.Input g.O.Output c.args.input.now c.find_opening.new.input c.args.output.now c.args.report.now.items said'
    IsText near line Ended c.in-Ok-Refused.ensures.calm c.in-Ok-Refused.ensures.octets c.in-Ok-add_file_fault.ensures
    (λ ki. subst (λ (xs : List ℕ). IsText xs [] line Ended) (sym (c.in-Ok-Refused.ensures.octets ki)) (refused_text rules c.args.others state near rest fault is (c.in-Ok-Refused.ensures.end ki)))
    (subst (λ (xs : List ℕ). IsText xs [] line Ended) (append-nil near) (refused_text rules c.args.others state near [] fault is (λ none. refl)))
    (λ ki same. cc))

pub returns-in-Err-close : goal.returns-in-Err-close
returns-in-Err-close g c = λ world sound is_shown.
    let rules = g.J.CellJudge.rules in
    let first = filter_state c.new-filter.result in
    let state = at_state first world in
    let said' = c.close.new.report.items in
    served_from rules c.args.others first (filter_start c.args.tick.nanoseconds c.args.link source.Record) world g.I.Input g.O.Output c.args.input.now c.find_opening.new.input
    c.args.output.now c.args.output.now c.args.report.now.items said' (Err NoMemory) c.new-filter.ensures
    (served_nothing g.I.Input g.O.Output c.args.input.now c.find_opening.new.input c.args.output.now c.args.report.now.items said'
    (ForwardsCapture rules c.args.others state) NoMemory
    (some_text rules c.judges_each_cell.ensures c.args.others state (g.I.Input.rest c.args.input.now) sound) c.in-Ok-Undecided.ensures.calm refl)

pub returns-in-Ok-Undecided : goal.returns-in-Ok-Undecided
returns-in-Ok-Undecided g c = λ world sound is_shown.
    let rules = g.J.CellJudge.rules in
    let first = filter_state c.new-filter.result in
    let state = at_state first world in
    let all = g.I.Input.rest c.args.input.now in
    let near = c.find_opening.new.window in
    let rest = g.I.Input.rest c.find_opening.new.input in
    let ending : Option Fault = Some c.short_fault-fault.result in
    let said' = c.close.new.report.items in
    let IsText = ForwardsCapture rules c.args.others state in
    let same : c.octets.result.now ≡ near = c.octets.ensures in
    let how : ending ≡ Some (short_fault near) = ap Some (c.short_fault-fault.ensures ∙ ap short_fault same) in
    let is : file_opening near ≡ Undecided = sym c.in-Ok-Undecided.ensures.opening ∙ c.in-Ok-Undecided.field-0-is in
    let at_end : g.I.Input.is_known → rest ≡ [] = λ ki. c.in-Ok-Undecided.ensures.end ki (file_undecided near is) in
    let report = rules.closes world first.summary (Some (short_fault near)) in
    let here : IsText near [] report Ended = short_text rules c.args.others state near is in
    let whole : g.I.Input.is_known → all ≡ near = λ ki. c.in-Ok-Undecided.ensures.octets ki ∙ ap (λ xs. near ++ xs) (at_end ki) ∙ append-nil near in
    let said : said' ≡ c.args.report.now.items ++ report =
    c.in-Ok-close.ensures world sound is_shown
    ∙ ap (λ (p : ReadingSummary). c.args.report.now.items ++ rules.closes world p ending) c.summary.ensures
    ∙ ap (λ e. c.args.report.now.items ++ rules.closes world first.summary e) how in
    served_from rules c.args.others first (filter_start c.args.tick.nanoseconds c.args.link source.Record) world g.I.Input g.O.Output c.args.input.now c.find_opening.new.input
    c.args.output.now c.args.output.now c.args.report.now.items said' _ c.new-filter.ensures
    (served_report g.I.Input g.O.Output c.args.input.now c.find_opening.new.input c.args.output.now c.args.report.now.items said'
    IsText near report Ended c.in-Ok-Undecided.ensures.calm c.in-Ok-Undecided.ensures.octets said
    (λ ki. subst (λ (xs : List ℕ). IsText xs [] report Ended) (sym (whole ki)) here)
    here
    (λ ki it. at_end ki))

pub returns : goal.returns
returns g c = λ world sound is_shown.
    let rules = g.J.CellJudge.rules in
    let first = filter_state c.new-filter.result in
    let state = at_state first world in
    let all = g.I.Input.rest c.args.input.now in
    let near = c.find_opening.new.window in
    let rest = g.I.Input.rest c.find_opening.new.input in
    let format = c.in-Ok-Opened.format in
    let reader = c.new-in-Ok-Opened.result in
    let made = c.new-in-Ok-Opened.ensures in
    let reading : ForwardReading = record { window = c.skip.new.self; reader = reader; filter = c.new-filter.result } in
    let IsText = ForwardsCapture rules c.args.others state in
    let is : file_opening near ≡ Opened format = sym c.in-Ok-Opened.ensures.opening ∙ c.in-Ok-Opened.field-0-is in
    let dropped : reading.window ≡ drop (format_start format) near = c.skip.ensures.octets ∙ ap (λ n. drop n near) c.start.ensures in
    served_from rules c.args.others first (filter_start c.args.tick.nanoseconds c.args.link source.Record) world g.I.Input g.O.Output c.args.input.now c.forward_on.new.input
    c.args.output.now c.forward_on.new.output c.args.report.now.items c.forward_on.new.report.items c.forward_on.result c.new-filter.ensures
    (record {
      served = record {
        text = λ ki ko.
            IfOk-weaker c.forward_on.result _ _
            (λ done each.
            let adds = each world sound is_shown in (
              adds.2.0,
              adds.2.1,
              (
                adds.0,
                subst (λ (xs : List ℕ). IsText xs adds.2.0 adds.0 done) (sym (c.in-Ok-Opened.ensures.octets ki))
                    (opened_text rules c.args.others world reading format near is made.format made.count made.at dropped rest adds.2.0 adds.0 done adds.2.2),
              ),
            ))
            (c.forward_on.ensures.text ki ko);
        front = λ ki ko.
            on_fault c.forward_on.result _ _ (c.forward_on.ensures.front ki ko)
            (λ each.
            let front = each world sound is_shown in (
              front.0,
              front.1,
              (
                front.2.0,
                front.2.1,
                (
                  front.2.2.0,
                  subst (λ (xs : List ℕ). IsText xs (front.0 ++ front.2.0) front.2.2.0 front.2.1) (sym (c.in-Ok-Opened.ensures.octets ki))
                      (opened_text rules c.args.others world reading format near is made.format made.count made.at dropped rest (front.0 ++ front.2.0) front.2.2.0
                      front.2.1 front.2.2.1),
                ),
              ),
            ));
        left = λ ki.
            IfOk-weaker c.forward_on.result _ _
            (λ done each. opened_enough rules c.args.others world reading format all near rest (g.I.Input.rest c.forward_on.new.input) done
            is made.format made.count made.at dropped (c.in-Ok-Opened.ensures.octets ki) (each world sound is_shown))
            (c.forward_on.ensures.left ki);
        whole = c.forward_on.ensures.whole;
        reading = c.forward_on.ensures.read ∙ ap (read_failures c.forward_on.result) c.in-Ok-Opened.ensures.calm;
        writing = c.forward_on.ensures.written;
      };
      reported = λ ki ko.
          IfOk-weaker c.forward_on.result _ _
          (λ done each.
          let adds = each world sound is_shown in (
            adds.0,
            adds.1,
            (
              adds.2.0,
              adds.2.1,
              subst (λ (xs : List ℕ). IsText xs adds.2.0 adds.0 done) (sym (c.in-Ok-Opened.ensures.octets ki))
                  (opened_text rules c.args.others world reading format near is made.format made.count made.at dropped rest adds.2.0 adds.0 done adds.2.2),
            ),
          ))
          (c.forward_on.ensures.text ki ko);
    })
