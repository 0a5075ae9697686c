use Rattle.vc_table.specs.inner.Pool.{pool_of}
use Rattle.vc_table.proofs.TableLemmas.{KeepsTable-new, no_lines}
use Rattle.vc_table.proofs.table.VcLines.new.Goals as goal

pub invariant_of-result : goal.invariant_of-result
invariant_of-result c =
    KeepsTable-new c.in_ok-row.row.items (pool_of c.in_ok-groups.groups) (pool_of c.in_ok-lines.lines)
    c.in_ok-row.ensures c.in_ok-groups.ensures c.in_ok-lines.ensures

pub returns : goal.returns
returns c =
    no_lines c.in_ok-row.row.items c.in_ok-groups.groups.entries.items (pool_of c.in_ok-lines.lines)
    c.in_ok-lines.ensures
