-- The state of a table of links.
use Rattle.cmd_fit.specs.LinkTallies.{LinksState}
use Rattle.cmd_fit.specs.declared.link_table.LinkTable.{LinkTable}

-- The state of this table.
abbrev pub links_state : LinkTable → LinksState
links_state table = record { rows = table.rows.entries; left_out = table.left_out; summary = table.summary }
