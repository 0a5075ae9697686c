-- The state of a connection, as it is written for C.
use Rattle.std.proofs.Common.{◌≡◌, ℕ, zero, suc, ◌<◌, ◌≤◌, List, [], ◌∷◌, length, Option, Some, None, refl, sym, ap, subst, ◌∙◌, arith}
use Rattle.std.specs.Prelude.{MatchOption, IfSome, IfNone, slice_get}
use Rattle.std.proofs.lemmas.Bool.Decides.{nat_tests}
use Rattle.std.proofs.lemmas.Option.{slice_get_within}
use Rattle.card_core.specs.Agreement.{CoreView, CoreAgrees}
use Rattle.card_core.specs.ConnectionState.{IsStateIn, HasLevelsForEach}
use Rattle.card_core.specs.World.{World, Connection, connection_in, kept_cells}
use Rattle.card_core.specs.declared.connection_state.ConnectionState.{ConnectionState}
use Rattle.leaky.specs.declared.contract.Contract.{Contract}
use Rattle.line_record.specs.History.{numbered}
use Rattle.upc_cell.specs.declared.vc.Vc.{Vc}
use Rattle.upc_c.specs.CardDesk.{id_for_c}
use Rattle.upc_c.specs.CardInspection.{HasConnection, OfConnection, counts_for_c}
use Rattle.upc_c.specs.CardState.{HasState, IsStateForC}
use Rattle.upc_c.specs.declared.card.UpcCard.{UpcCard}
use Rattle.upc_c.specs.declared.state.UpcMeter.{UpcMeter}
use Rattle.upc_c.specs.declared.state.UpcState.{UpcState}
use Rattle.upc_c.specs.inner.HandOut.{IsLongerIn, IsShortIn}
use Rattle.upc_c.specs.inner.WrittenState.{IsMissingIn, IsStateOf, IsStateOn, IsWrittenState, meter_for_c}

-- A list has an item at each place below its length.
item-at : {X : Type 0} (xs : List X) (place : ℕ) → place < length xs → (x : X) × (slice_get xs place ≡ Some x)
item-at [] place h = absurd (omega arith)
item-at (x ∷ xs) zero h = (x, refl)
item-at (x ∷ xs) (suc place) h = item-at xs place (omega arith)

numbered-suc : {X : Type 0} (xs : List X) (place : ℕ) → numbered xs (suc place) ≡ slice_get xs place
numbered-suc xs place = grind (arith, nat_tests)

-- In a world with this state of the connection, the state that was written is the one for C.
pub written-for-c : (world : World) (vc : Vc) (state : ConnectionState) (before room : List UpcMeter) (written : UpcState)
    → IsStateIn world vc state → HasLevelsForEach state → IsWrittenState state before room written
    → HasConnection world vc (λ connection. IsStateForC world connection before room written)
written-for-c world vc state before room written is sized is_written =
    let numbers = is_written.numbers in
    let many : written.contracts ≡ length state.contracts.items = ap (λ (t : UpcState). t.contracts) numbers in (
      is.connection,
      is.found,
      record {
        incarnation = ap (λ (t : UpcState). t.incarnation) numbers ∙ is.incarnation;
        line = ap (λ (t : UpcState). t.line) numbers ∙ is.line;
        program = ap (λ (t : UpcState). t.program) numbers ∙ ap id_for_c is.program;
        last = ap (λ (t : UpcState). t.last) numbers ∙ is.state.last;
        counts = ap (λ (t : UpcState). t.counts) numbers ∙ ap counts_for_c is.counts;
        cells = ap (λ (t : UpcState). t.cells) numbers ∙ is.entries;
        contracts = many ∙ ap length is.contracts;
        fits = let fits = is_written.fits in omega arith;
        meters = λ place contract found.
            let here : slice_get state.contracts.items place ≡ Some contract =
            subst (λ (cs : List Contract). slice_get cs place ≡ Some contract) (sym is.contracts) found in
            let inside : place < length state.contracts.items = slice_get_within state.contracts.items place contract here in
            let one_each = sized.one_each in
            let its = item-at state.state.levels.items place (omega arith) in
            let agrees = is.state.holds.agrees (suc place) its.0 (numbered-suc state.state.levels.items place ∙ its.1) in record {
              meter = meter_for_c contract its.0;
              there = is_written.meters.front place contract its.0 inside here its.1;
              numbers = refl;
              shows = record { first = agrees.first; second = agrees.second };
              kept = record { first = its.0.first_bounded; second = its.0.second_bounded };
            };
        rest = λ place above. is_written.meters.rest place (omega arith);
      },
    )

pub has-state : (card : UpcCard) (path channel : ℕ) (state : ConnectionState) (before room : List UpcMeter) (written : UpcState)
    → IsStateOn card path channel state → HasLevelsForEach state → IsWrittenState state before room written
    → HasState card path channel before room written
has-state card path channel state before room written on sized is_written = record {
  vc = on.vc;
  numbers = on.numbers;
  core = on.core;
  had = on.had;
  so = λ world agrees. written-for-c world on.vc state before room written (on.so world agrees) sized is_written;
}

-- The number of its contracts.
pub has-contracts : (card : UpcCard) (path channel : ℕ) (state : ConnectionState) → IsStateOn card path channel state
    → OfConnection card path channel (λ world connection. length connection.contracts ≡ length state.contracts.items)
has-contracts card path channel state on = record {
  vc = on.vc;
  numbers = on.numbers;
  core = on.core;
  had = on.had;
  so = λ world agrees. let is = on.so world agrees in (is.connection, is.found, ap length (sym is.contracts));
}

-- Of each world that the core agrees with.
pub state-found : (core : CoreView) (vc : Vc) (found : Option ConnectionState)
    → ((world : World) → CoreAgrees core world → MatchOption found (connection_in world.connections vc ≡ None) (IsStateIn world vc))
    → IfSome found (IsStateOf core vc)
state-found core vc None is = tt
state-found core vc (Some state) is = is

pub state-missing : (core : CoreView) (vc : Vc) (found : Option ConnectionState)
    → ((world : World) → CoreAgrees core world → MatchOption found (connection_in world.connections vc ≡ None) (IsStateIn world vc))
    → IfNone found (IsMissingIn core vc)
state-missing core vc None is = is
state-missing core vc (Some state) is = tt

-- The journal of a connection with this state.
abbrev connection-or : Option Connection → Connection → Connection
connection-or None other = other
connection-or (Some connection) other = connection

pub short-by-state : (core : CoreView) (vc : Vc) (most : ℕ) (state : ConnectionState) → IsStateOf core vc state → state.entries ≤ most
    → IsShortIn core vc most
short-by-state core vc most state is few = record {
  few = λ world agrees connection found.
      let it = is world agrees in
      let same : it.connection ≡ connection = ap (λ c. connection-or c connection) (sym it.found ∙ found) in
      subst (λ (n : ℕ). n ≤ most) (it.entries ∙ ap (λ (c : Connection). length (kept_cells c)) same) few;
}

pub longer-by-state : (core : CoreView) (vc : Vc) (most : ℕ) (state : ConnectionState) → IsStateOf core vc state → most < state.entries
    → IsLongerIn core vc most state.entries
longer-by-state core vc most state is more =
    (more, λ world agrees. let it = is world agrees in (it.connection, it.found, sym it.entries))
