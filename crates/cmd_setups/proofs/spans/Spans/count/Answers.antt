-- A cell with a verdict is one more in the row of its connection.
use Rattle.std.proofs.Common.{◌∙◌, ap, not, sym}
use Rattle.captures_text.proofs.Public.{on_done}
use Rattle.card_core.specs.Sections.{answer_to}
use Rattle.upc_cell.specs.Connection.{vc_of}
use Rattle.cmd_setups.proofs.SpanLemmas.{rows_counted, ticks_given}
use Rattle.cmd_setups.proofs.spans.Spans.count.Goals as goal

pub returns-in-Some : goal.returns-in-Some
returns-in-Some c = λ spans shown.
    let cell = c.args.cell.now in
    let given = answer_to cell c.args.decision.now in
    let verdict = c.in-Some.verdict in
    on_done c.count_row.result _ _ c.count_row.ensures
    (λ counted.
    record {
      side = shown.side;
      length = shown.length;
      begin = shown.begin;
      begun = shown.begun;
      rows = rows_counted spans given (vc_of c.args.side cell) verdict c.vc_at.result c.args.self.now.rows.entries c.count_row.new.rows.entries
          (ticks_given c.args.self.now spans shown (c.is_none.ensures ∙ ap (λ b. not b) c.if-is_none.false))
          (sym (c.verdict_in.ensures cell) ∙ c.in-Some.is) shown.rows c.vc_at.ensures.connection counted;
    })
