-- The state of a connection, in each world that the core agrees with.
use Rattle.std.proofs.Common.{◌≡◌, ℕ, Some, None, length, sym, ap, subst, ◌∙◌}
use Rattle.std.specs.Prelude.{slice_get}
use Rattle.upc_cell.specs.declared.vc.Vc.{Vc}
use Rattle.line_record.specs.declared.directory.Seating.{Seating}
use Rattle.line_record.specs.declared.state.State.{State}
use Rattle.line_record.specs.Directory.{seating_at}
use Rattle.line_record.specs.History.{empty_buckets}
use Rattle.line_record.specs.Line.{LineView}
use Rattle.line_record.specs.StateAfter.{IsStateAfter}
use Rattle.line_record.proofs.Public.{each_cell_is_judged}
use Rattle.card_core.specs.declared.connection_state.ConnectionState.{ConnectionState}
use Rattle.card_core.specs.Agreement.{CoreView, CoreAgrees, seating_of}
use Rattle.card_core.specs.ConnectionState.{IsStateIn}
use Rattle.card_core.specs.World.{World, Connection, connection_in, returned_cells, kept_cells}
use Rattle.card_core.specs.inner.Listing.{IsReadState}
use Rattle.card_core.proofs.LookUps.{same_some, unmapped, mapped}

-- The directory has no such connection, so the world has none.
pub missing-state : (core : CoreView) (world : World) (vc : Vc) → CoreAgrees core world → seating_at core.directory vc ≡ None
    → connection_in world.connections vc ≡ None
missing-state core world vc agrees none =
    unmapped seating_of (connection_in world.connections vc) (sym (agrees.seatings.seatings vc) ∙ none)

-- The values of the line of its seating are those of the connection.
pub state-read : (core : CoreView) (world : World) (vc : Vc) (seating : Seating) (line : LineView) (read_state : ConnectionState)
    → CoreAgrees core world → seating_at core.directory vc ≡ Some seating → slice_get core.lines seating.line ≡ Some line
    → IsReadState seating line read_state → IsStateIn world vc read_state
state-read core world vc seating line read_state agrees sits here values =
    let found = mapped seating_of (connection_in world.connections vc) seating (sym (agrees.seatings.seatings vc) ∙ sits) in
    let connection : Connection = found.0 in
    let is : connection_in world.connections vc ≡ Some connection = found.1 in
    let seated : seating ≡ seating_of connection = found.2 in
    let numbers : seating.line ≡ connection.line = ap (λ (s : Seating). s.line) seated in
    let there : slice_get core.lines connection.line ≡ Some line = subst (λ (n : ℕ). slice_get core.lines n ≡ Some line) numbers here in
    let serving = agrees.lines.serving vc connection is in
    let same : serving.0 ≡ line = same_some serving.0 line (sym serving.1 ∙ there) in
    let judged = (each_cell_is_judged connection.contracts empty_buckets (returned_cells connection) (kept_cells connection)).0 in record {
      connection = connection;
      found = is;
      incarnation = values.incarnation ∙ ap (λ (s : Seating). s.incarnation) seated;
      line = values.number ∙ numbers;
      program = values.program ∙ ap (λ (s : Seating). s.program) seated;
      contracts = values.contracts ∙ ap (λ (l : LineView). l.contracts) (sym same) ∙ serving.2.contracts;
      state = subst (λ (s : State). IsStateAfter connection.contracts connection.history s)
          (ap (λ (l : LineView). l.state) same ∙ sym values.state) serving.2.state;
      counts = ap (λ (s : State). s.counts) values.state ∙ agrees.lines.counts connection.line line there;
      entries = values.entries ∙ ap (λ (l : LineView). length l.entries) (sym same) ∙ ap length serving.2.entries ∙ judged;
    }
