-- What comes next says how the run goes on.
use Rattle.std.proofs.Common.{◌≡◌, List, ℕ, Some, Ok, Err, subst}
use Rattle.captures.specs.Frames.{first_frame}
use Rattle.captures.specs.Reading.{ComesNext}
use Rattle.captures.specs.RecordOctets.{octets_of_first}
use Rattle.captures.specs.declared.reader.Next.TheVariants.{Broken, Skipped, Taken}
use Rattle.captures_text.specs.CellFilter.{filter_state}
use Rattle.text_io.specs.declared.machine.Turn.{Turn}
use Rattle.cmd_forward.specs.declared.stepping.ForwardReading.{ForwardReading}
use Rattle.cmd_forward.specs.inner.ForwardSteps.{TurnsAtRecord}
use Rattle.cmd_forward.proofs.StepLemmas.{advances_skipped, advances_record, came_on, ends_fault, ends_record}
use Rattle.cmd_forward.proofs.stepping.ForwardReading.step.Goals as goal

pub returns-in_ok-close_at-in-Broken-clause-ends : goal.returns-in_ok-close_at-in-Broken-clause-ends
returns-in_ok-close_at-in-Broken-clause-ends g c = λ ended.
    let j = g.J.CellJudge in
    let before = c.args.self.now in
    ends_fault j.rules c.args.others (j.shows c.args.judge.now) before c.next.new.self c.in-Broken.fault c.args.report.now.items c.close_at.new.report.items
    (subst (λ (octets : List ℕ). ComesNext before.reader octets (Broken c.in-Broken.fault) c.next.new.self) c.octets-octets.ensures c.in-Broken.ensures)
    c.in_ok-close_at-in-Broken.ensures

pub returns-in-Skipped-clause-goes_on : goal.returns-in-Skipped-clause-goes_on
returns-in-Skipped-clause-goes_on g c = λ outcome.
    let j = g.J.CellJudge in
    let before = c.args.self.now in
    let after : ForwardReading = record { window = c.skip.new.self; reader = c.next.new.self; filter = c.skip_block.new.self } in
    advances_skipped j.rules c.args.others (j.shows c.args.judge.now) before after c.in-Skipped.block c.in-Skipped.own c.args.written.now.items
    (subst (λ (octets : List ℕ). ComesNext before.reader octets (Skipped c.in-Skipped.block c.in-Skipped.own) c.next.new.self) c.octets-octets.ensures c.in-Skipped.ensures)
    c.skip_block.ensures c.skip.ensures.octets

pub returns-in-Skipped-clause-came : goal.returns-in-Skipped-clause-came
returns-in-Skipped-clause-came g c =
    let before = c.args.self.now in
    let after : ForwardReading = record { window = c.skip.new.self; reader = c.next.new.self; filter = c.skip_block.new.self } in
    came_on before after (Err c.in-Skipped.block) c.in-Skipped.own
    (subst (λ (octets : List ℕ). ComesNext before.reader octets (Skipped c.in-Skipped.block c.in-Skipped.own) c.next.new.self) c.octets-octets.ensures c.in-Skipped.ensures)
    c.skip.ensures.octets

pub returns-in-Ends-clause-ends : goal.returns-in-Ends-clause-ends
returns-in-Ends-clause-ends g c = λ ended.
    let j = g.J.CellJudge in
    let before = c.args.self.now in
    let whole = c.record_octets-whole.result.now in
    let on = c.forward_record.new in
    ends_record j.rules c.args.others (j.shows c.args.judge.now) (j.shows on.judge) before c.next.new.self (filter_state on.filter) c.in-Taken.record_read whole
    c.in-Taken.own c.args.written.now.items on.written.items c.args.report.now.items on.report.items
    (subst (λ (octets : List ℕ). ComesNext before.reader octets (Taken c.in-Taken.record_read c.in-Taken.own) c.next.new.self) c.octets-octets.ensures c.in-Taken.ensures)
    (subst (λ (octets : List ℕ). whole ≡ octets_of_first (first_frame before.reader.format before.reader.at octets)) c.octets-octets.ensures c.record_octets-whole.ensures.octets)
    (subst (λ (turn : Turn). TurnsAtRecord j.rules c.args.others (j.shows c.args.judge.now) (filter_state before.filter) c.in-Taken.record_read whole turn
    (filter_state on.filter) (j.shows on.judge) c.args.written.now.items on.written.items c.args.report.now.items on.report.items) c.in-Ends.is c.in_ok-forward_record-in-Taken.ensures)

pub returns-in-GoesOn-clause-goes_on : goal.returns-in-GoesOn-clause-goes_on
returns-in-GoesOn-clause-goes_on g c = λ outcome.
    let j = g.J.CellJudge in
    let before = c.args.self.now in
    let whole = c.record_octets-whole.result.now in
    let on = c.forward_record.new in
    let after : ForwardReading = record { window = c.skip-in-GoesOn.new.self; reader = c.next.new.self; filter = on.filter } in
    advances_record j.rules c.judges_each_cell.ensures c.args.others (j.shows c.args.judge.now) (j.shows on.judge) before after c.in-Taken.record_read whole
    c.in-Taken.own c.args.written.now.items on.written.items c.args.report.now.items on.report.items
    (subst (λ (octets : List ℕ). ComesNext before.reader octets (Taken c.in-Taken.record_read c.in-Taken.own) c.next.new.self) c.octets-octets.ensures c.in-Taken.ensures)
    (subst (λ (octets : List ℕ). whole ≡ octets_of_first (first_frame before.reader.format before.reader.at octets)) c.octets-octets.ensures c.record_octets-whole.ensures.octets)
    (subst (λ (turn : Turn). TurnsAtRecord j.rules c.args.others (j.shows c.args.judge.now) (filter_state before.filter) c.in-Taken.record_read whole turn
    (filter_state on.filter) (j.shows on.judge) c.args.written.now.items on.written.items c.args.report.now.items on.report.items) c.in-GoesOn.is c.in_ok-forward_record-in-Taken.ensures)
    c.skip-in-GoesOn.ensures.octets

pub returns-in-GoesOn-clause-came : goal.returns-in-GoesOn-clause-came
returns-in-GoesOn-clause-came g c =
    let before = c.args.self.now in
    let after : ForwardReading = record { window = c.skip-in-GoesOn.new.self; reader = c.next.new.self; filter = c.forward_record.new.filter } in
    came_on before after (Ok c.in-Taken.record_read) c.in-Taken.own
    (subst (λ (octets : List ℕ). ComesNext before.reader octets (Taken c.in-Taken.record_read c.in-Taken.own) c.next.new.self) c.octets-octets.ensures c.in-Taken.ensures)
    c.skip-in-GoesOn.ensures.octets
