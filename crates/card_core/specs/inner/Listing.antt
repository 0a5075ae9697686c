-- The search for the next connection among the lines of a card.
use Rattle.std.specs.Prelude.{◌≡◌, ℕ, ◌<◌, true, false, if◌then◌else◌, List, length, Option, Some, None, slice_get}
use Rattle.upc_cell.specs.declared.vc.Vc.{Vc}
use Rattle.line_record.specs.declared.owner.Owner.{Owner}
use Rattle.line_record.specs.declared.directory.Seating.{Seating}
use Rattle.line_record.specs.Line.{LineView}
use Rattle.card_core.specs.declared.connection_state.ConnectionState.{ConnectionState}
use Rattle.card_core.specs.ConnectionState.{is_before, is_after}

-- The first of both, in the order of connections.
abbrev pub first_of_both : Option Vc → Vc → Vc
first_of_both None vc = vc
first_of_both (Some best) vc = if is_before vc best then vc else best

-- The connection `best` that was found so far, or this one if it comes after `earlier`, and before `best` if there is one.
abbrev pub nearer : Option Vc → Option Vc → Vc → Option Vc
nearer best earlier vc = if is_after earlier vc then Some (first_of_both best vc) else best

-- The line of this number serves this connection.
pub record ServesAt (lines : List LineView) (number : ℕ) (vc : Vc) : Type 0 where
  pub line : LineView
  pub there : slice_get lines number ≡ Some line
  pub owner : Owner
  pub owned : line.owner ≡ Some owner
  pub same : owner.vc ≡ vc

-- A connection was found, and this one doesn't come before it.
abbrev pub HasReached : Option Vc → Vc → Type 0
HasReached None vc = ⊥
HasReached (Some best) vc = is_before vc best ≡ false

-- What was found among the lines below this number: `best`, if there is one, is a connection of a line and comes after
-- `earlier`. Of the connections of lines below this number that come after `earlier`, none comes before `best`; if there
-- is no `best`, there are none.
pub record IsNearest (lines : List LineView) (below : ℕ) (earlier best : Option Vc) : Type 0 where
  pub there : (next : Vc) → best ≡ Some next → ((number : ℕ) × ServesAt lines number next) × (is_after earlier next ≡ true)
  pub least : (number : ℕ) (vc : Vc) → number < below → ServesAt lines number vc → is_after earlier vc ≡ true → HasReached best vc

-- The values of a line and of the seating that leads to it.
pub record IsReadState (seating : Seating) (line : LineView) (read_state : ConnectionState) : Type 0 where
  pub incarnation : read_state.incarnation ≡ seating.incarnation
  pub number : read_state.line ≡ seating.line
  pub program : read_state.program ≡ seating.program
  pub contracts : read_state.contracts.items ≡ line.contracts
  pub state : read_state.state ≡ line.state
  pub entries : read_state.entries ≡ length line.entries
