-- The least limit of a flow: the highest level that a cell finds in the bucket, if every cell conforms. Increment and limit are those
-- of the continuous-state leaky bucket of ITU-T I.371, annex A.
use Rattle.std.specs.Prelude.{ℕ, ◌+◌, ◌^◌, nat_lt, nat_le, ◌==◌, max, Bool, true, ◌&&◌, if◌then◌else◌, Option, Some, None, Result, Ok, Err, List, [], ◌∷◌, length}
use Rattle.leaky.specs.Bucket.{Bucket, level_at}
use Rattle.upc_cell.specs.Header.{clp_of}
use Rattle.cmd_fit.specs.Flows.{is_same_flow}
use Rattle.cmd_fit.specs.declared.flow_fit.FlowFit.{FlowFit}
use Rattle.cmd_fit.specs.declared.fault.FitFault.{FitFault}
use Rattle.cmd_fit.specs.declared.fault.FitFault.TheVariants.{TooManyConnections, TooLarge}
use Rattle.cmd_fit.specs.declared.flow.Flow.{Flow}

-- Whether a cell is of the class that is asked for: of this cell loss priority (CLP), if one is asked for.
abbrev pub is_of_class : Option ℕ → List ℕ → Bool
is_of_class None cell = true
is_of_class (Some clp) cell = clp_of cell == clp

-- The bucket after the cells so far.
abbrev pub bucket_of : FlowFit → Bucket
bucket_of fit = record { level = fit.level; charged = fit.charged }

-- The state of this flow before its first cell, whose record has this number.
abbrev pub no_cells : Flow → ℕ → FlowFit
no_cells flow number = record { flow = flow; cells = 0; level = 0; charged = 0; limit = 0; number = number }

-- The state after one more cell at this moment, whose record has this number, with this increment. The cell needs the level that is left
-- as its limit, and fills the bucket.
abbrev pub fit_after : ℕ → FlowFit → ℕ → ℕ → FlowFit
fit_after increment fit moment number = record {
  flow = fit.flow;
  cells = fit.cells + 1;
  level = level_at (bucket_of fit) moment + increment;
  charged = moment;
  limit = max fit.limit (level_at (bucket_of fit) moment);
  number = if nat_lt fit.limit (level_at (bucket_of fit) moment) then number else fit.number;
}

-- Whether 64 bits hold the numbers of the state.
abbrev pub is_in_64_bits : FlowFit → Bool
is_in_64_bits fit = nat_lt fit.cells (2 ^ 64) && nat_lt fit.level (2 ^ 64)

-- The state of a flow among these, if it has cells.
abbrev pub fit_in : Flow → List FlowFit → Option FlowFit
fit_in flow [] = None
fit_in flow (fit ∷ fits) = if is_same_flow flow fit.flow then Some fit else fit_in flow fits

-- The states with this one: in the place of the flow's earlier one, or at the end.
abbrev pub with_fit : FlowFit → List FlowFit → List FlowFit
with_fit fit [] = fit ∷ []
with_fit fit (other ∷ fits) = if is_same_flow fit.flow other.flow then fit ∷ fits else other ∷ with_fit fit fits

-- The states with this one, if 64 bits hold its numbers.
abbrev pub with_checked_fit : FlowFit → List FlowFit → Result (List FlowFit) FitFault
with_checked_fit fit fits = if is_in_64_bits fit then Ok (with_fit fit fits) else Err TooLarge

-- The highest number of flows: of connections, or with rules of connections and values.
abbrev pub most_connections : ℕ
most_connections = 65535

-- The states after a cell of a flow that has this state among them, if it has one.
abbrev pub fits_from : ℕ → List FlowFit → Option FlowFit → Flow → ℕ → ℕ → Result (List FlowFit) FitFault
fits_from increment fits (Some fit) flow moment number = with_checked_fit (fit_after increment fit moment number) fits
fits_from increment fits None flow moment number =
    if nat_le most_connections (length fits) then Err TooManyConnections
    else Ok (with_fit (fit_after increment (no_cells flow number) moment number) fits)

-- The states after a cell of this flow at this moment, whose record has this number, or why the cell ends the run.
abbrev pub fits_after : ℕ → List FlowFit → Flow → ℕ → ℕ → Result (List FlowFit) FitFault
fits_after increment fits flow moment number = fits_from increment fits (fit_in flow fits) flow moment number
