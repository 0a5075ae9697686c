-- The map has what the row says.
use Rattle.std.proofs.Common.{◌∙◌}
use Rattle.cmd_fit.proofs.LinkRows.{looked-up}
use Rattle.cmd_fit.proofs.link_table.tally_in.Goals as goal

pub returns : goal.returns
returns c = c.copied.ensures ∙ c.get.ensures.value ∙ looked-up c.args.rows.now.entries c.args.link
