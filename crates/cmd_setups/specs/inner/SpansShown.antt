-- A judged cell.
use Rattle.leaky.specs.declared.verdict.Verdict.{Verdict}
use Rattle.upc_cell.specs.declared.vc.Vc.{Vc}
use Rattle.cmd_setups.specs.SpanCounts.{JudgedCell}

-- A judged cell of this connection, with this verdict.
abbrev pub judged_cell : Vc → Verdict → JudgedCell
judged_cell vc verdict = record { vc = vc; verdict = verdict }
