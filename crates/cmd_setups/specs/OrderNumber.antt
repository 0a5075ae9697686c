-- The place of a connection in the order of path and channel.
use Rattle.std.specs.Prelude.{ℕ, ◌+◌, ◌*◌}
use Rattle.upc_cell.specs.declared.vc.Vc.{Vc}

-- The number of a connection in this order, from 0.
abbrev pub order_number : Vc → ℕ
order_number vc = 65536 * vc.vpi + vc.vci
