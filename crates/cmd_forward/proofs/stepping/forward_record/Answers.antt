-- Only a record with a cell counts.
use Rattle.std.proofs.Common.{ap}
use Rattle.captures_text.specs.CellFilter.{FilterState, filter_state}
use Rattle.captures_text.specs.declared.filter.Filtered.{Filtered}
use Rattle.cmd_forward.proofs.SomeForwarding.{cell_counted}
use Rattle.cmd_forward.proofs.stepping.forward_record.Goals as goal

pub add_cell_record-requires-clause-cell : goal.add_cell_record-requires-clause-cell
add_cell_record-requires-clause-cell g c =
    cell_counted (filter_state c.args.filter.now) c.args.record_read.now c.args.octets.now c.in-Counts.moment c.in-Counts.cell c.requires.content
    (ap (λ (found : Filtered × FilterState). found.0) c.in-Counts.ensures)
