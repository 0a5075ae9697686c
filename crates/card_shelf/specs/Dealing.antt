-- Which card serves a connection.
use Rattle.std.specs.Prelude.{ℕ, ◌+◌, ◌*◌, ◌%◌}
use Rattle.upc_cell.specs.declared.side.Side.{Side}
use Rattle.upc_cell.specs.declared.vc.Vc.{Vc}
use Rattle.upc_cell.specs.Connection.{vc_of}
use Rattle.card_shelf.specs.declared.arrival.Arrival.{Arrival}

-- The card of a virtual connection, among this number of cards: path and channel as one number, and its remainder.
abbrev pub card_of : Vc → ℕ → ℕ
card_of vc cards = (65536 * vc.vpi + vc.vci) % cards

-- The card of an arrival: that of the connection which the cell's header names at this side.
abbrev pub card_for : Side → ℕ → Arrival → ℕ
card_for side cards arrival = card_of (vc_of side arrival.cell) cards
