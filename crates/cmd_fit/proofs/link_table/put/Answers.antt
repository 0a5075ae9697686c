-- The row is put where the map puts it.
use Rattle.std.proofs.Common.{◌∙◌}
use Rattle.cmd_fit.proofs.LinkRows.{inserted}
use Rattle.cmd_fit.proofs.link_table.put.Goals as goal

pub returns-in-Ok : goal.returns-in-Ok
returns-in-Ok c = c.in-Ok.ensures.entries ∙ inserted c.args.rows.now.entries c.args.link c.args.tally
