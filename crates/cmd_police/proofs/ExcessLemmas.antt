-- By how much a cell came too early, from the line that it left.
use Rattle.std.proofs.Common.{◌≡◌, ℕ, zero, suc, ◌≤◌, ◌-◌, ◌==◌, Bool, true, false, if◌then◌else◌, List, [], ◌∷◌, ◌++◌, length, Option, Some, None, slice_get, option_map, refl, sym, ap, ◌∙◌, subst, arith}
use Rattle.std.specs.Prelude.{option_and_then}
use Rattle.card_core.specs.Agreement.{CoreAgrees, CoreView, seating_of}
use Rattle.card_core.specs.Inspection.{line_at, line_of_seating}
use Rattle.card_core.specs.World.{Connection, World, connection_in}
use Rattle.leaky.specs.Contract.{Buckets}
use Rattle.leaky.specs.Excess.{excess_at}
use Rattle.leaky.specs.KeptState.{Agrees, IsChargedBy}
use Rattle.leaky.specs.declared.contract.Contract.{Contract}
use Rattle.leaky.specs.declared.excess.Excess.{Excess}
use Rattle.leaky.specs.declared.levels.Levels.{Levels}
use Rattle.leaky.specs.declared.verdict.Verdict.{Verdict}
use Rattle.leaky.specs.declared.verdict.Verdict.TheVariants.{Pass, Tag, Discard, Refuse}
use Rattle.line_record.specs.History.{NamedCell, buckets_after_cells, empty_buckets, last_moment, numbered}
use Rattle.line_record.specs.Line.{LineView}
use Rattle.upc_cell.specs.declared.vc.Vc.{Vc}
use Rattle.cmd_setups.specs.inner.ExcessLeft.{IsKeptOnLine, excess_left, first_met, buckets_to_explain}

-- Lists of one length have the same numbers.
places_same : {X Y : Type 0} (xs : List X) (ys : List Y) (place : ℕ) → length ys ≡ length xs → slice_get ys place ≡ None → slice_get xs place ≡ None
places_same [] ys place same none = refl
places_same (x ∷ xs) [] place same none = let no : 0 ≡ suc (length xs) = same in cc
places_same (x ∷ xs) (y ∷ ys) zero same none = let no = none in cc
places_same (x ∷ xs) (y ∷ ys) (suc place) same none = places_same xs ys place (let e : suc (length ys) ≡ suc (length xs) = same in cc) none

numbers_same : {X Y : Type 0} (xs : List X) (ys : List Y) (number : ℕ) (b : Bool) → length ys ≡ length xs
    → (if b then None else slice_get ys (number - 1)) ≡ None → (if b then None else slice_get xs (number - 1)) ≡ None
numbers_same xs ys number true same none = refl
numbers_same xs ys number false same none = places_same xs ys (number - 1) same none

-- There are levels for each contract.
pub no_levels : (connection : Connection) (line : LineView) (value : ℕ) → IsKeptOnLine connection line
    → numbered line.state.levels.items value ≡ None → numbered line.contracts value ≡ None
no_levels connection line value is none =
    let same : length line.state.levels.items ≡ length line.contracts = is.state.one_each ∙ ap length (sym is.contracts) in
    numbers_same line.contracts line.state.levels.items value (value == 0) same none

-- The excess of the contract that the value names.
by_contract : (connection : Connection) (line : LineView) (value : ℕ) (verdict : Verdict) (clp : Bool) (moment : ℕ) (found : Option Contract)
    → IsKeptOnLine connection line → numbered line.contracts value ≡ found
    → excess_left connection value verdict clp moment
    ≡ option_and_then (λ contract. excess_at contract (buckets_to_explain verdict (buckets_after_cells connection.contracts empty_buckets connection.history value)) clp moment) found
by_contract connection line value verdict clp moment found is named =
    ap (option_and_then (λ contract. excess_at contract (buckets_to_explain verdict (buckets_after_cells connection.contracts empty_buckets connection.history value)) clp moment))
    (subst (λ (xs : List Contract). numbered xs value ≡ found) is.contracts named)

-- A value that names no contract.
pub left_none : (connection : Connection) (line : LineView) (value : ℕ) (verdict : Verdict) (clp : Bool) (moment : ℕ) → IsKeptOnLine connection line
    → numbered line.contracts value ≡ None → None ≡ excess_left connection value verdict clp moment
left_none connection line value verdict clp moment is none = sym (by_contract connection line value verdict clp moment None is none)

-- Levels that represent buckets represent what the excess depends on.
met_agrees : (verdict : Verdict) (levels met : Levels) (buckets : Buckets) → met.first ≡ first_met verdict levels.first → met.second ≡ levels.second
    → Agrees levels buckets → Agrees met (buckets_to_explain verdict buckets)
met_agrees Pass levels met buckets first second agrees = record { first = first ∙ agrees.first; second = second ∙ agrees.second }
met_agrees Tag levels met buckets first second agrees = record { first = first; second = second ∙ agrees.second }
met_agrees Discard levels met buckets first second agrees = record { first = first ∙ agrees.first; second = second ∙ agrees.second }
met_agrees Refuse levels met buckets first second agrees = record { first = first ∙ agrees.first; second = second ∙ agrees.second }

met_charged : (verdict : Verdict) (buckets : Buckets) (moment : ℕ) → IsChargedBy buckets moment → IsChargedBy (buckets_to_explain verdict buckets) moment
met_charged Pass buckets moment charged = charged
met_charged Tag buckets moment charged = record { first = omega arith; second = charged.second }
met_charged Discard buckets moment charged = charged
met_charged Refuse buckets moment charged = charged

-- The excess from the levels that are kept.
pub left_is : (connection : Connection) (line : LineView) (value : ℕ) (verdict : Verdict) (clp : Bool) (moment : ℕ) (contract : Contract) (levels met : Levels)
    (found : Option Excess) → IsKeptOnLine connection line → line.state.last ≤ moment
    → numbered line.contracts value ≡ Some contract → numbered line.state.levels.items value ≡ Some levels
    → met.first ≡ first_met verdict levels.first → met.second ≡ levels.second
    → ((buckets : Buckets) → Agrees met buckets → IsChargedBy buckets moment → found ≡ excess_at contract buckets clp moment)
    → found ≡ excess_left connection value verdict clp moment
left_is connection line value verdict clp moment contract levels met found is late one two first second at =
    let buckets = buckets_after_cells connection.contracts empty_buckets connection.history value in
    let agrees = is.state.holds.agrees value levels two in
    let charged = is.state.holds.charged value levels two in
    at (buckets_to_explain verdict buckets) (met_agrees verdict levels met buckets first second agrees)
    (met_charged verdict buckets moment (record { first = omega (arith, charged.first, late); second = omega (arith, charged.second, late) }))
    ∙ sym (by_contract connection line value verdict clp moment (Some contract) is one)

-- The line of a connection keeps it.
pub line_keeps : (core : CoreView) (world : World) (vc : Vc) (connection : Connection) → CoreAgrees core world → connection_in world.connections vc ≡ Some connection
    → (line : LineView) × (line_at core vc ≡ Some line) × IsKeptOnLine connection line
line_keeps core world vc connection agrees found =
    let serving = agrees.lines.serving vc connection found in (
      serving.0,
      ap (line_of_seating core.lines) (agrees.seatings.seatings vc ∙ ap (option_map seating_of) found) ∙ serving.1,
      record { contracts = serving.2.contracts; state = serving.2.state },
    )

-- The last moment is that of the last cell.
pub last_then : (earlier : ℕ) (xs : List NamedCell) (cell : NamedCell) → last_moment earlier (xs ++ cell ∷ []) ≡ cell.moment
last_then earlier [] cell = refl
last_then earlier (x ∷ xs) cell = last_then x.moment xs cell
