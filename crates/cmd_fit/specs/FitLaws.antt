-- Laws of `fit`, in the words of the leaky bucket.
use Rattle.std.specs.Prelude.{◌≡◌, ℕ, ◌+◌, ◌^◌, ◌<◌, ◌≤◌, ◌↔◌, Option, None, MatchOption, List, [], ◌∷◌, ◌++◌, map, filter, length, Result}
use Rattle.std.specs.BTreeMap.{is_at}
use Rattle.std.specs.Map.{lookup}
use Rattle.std.specs.Ordering.{nat_cmp}
use Rattle.captures.specs.declared.link.Link.{Link}
use Rattle.captures.specs.declared.packet_time.TimeSource.{TimeSource}
use Rattle.captures.specs.declared.reader.SkippedBlock.{SkippedBlock}
use Rattle.captures.specs.declared.reader.Record.{Record}
use Rattle.captures_text.specs.CaptureText.{IsTextOfCells, RunsThrough, end_done, text_at_end}
use Rattle.captures_text.specs.CellFilter.{CellsEnd, captured_cells, filter_start}
use Rattle.captures_text.specs.declared.captured_cell.CapturedCell.{CapturedCell}
use Rattle.leaky.specs.Bucket.{opening}
use Rattle.leaky.specs.Bursts.{AllFill}
use Rattle.leaky.specs.Moments.{GoesOn}
use Rattle.leaky.specs.declared.gcra.Gcra.{Gcra}
use Rattle.text_io.specs.declared.ending.Done.{Done}
use Rattle.cmd_fit.specs.FitAsked.{IsFitAsked}
use Rattle.cmd_fit.specs.Fits.{fit_in, is_of_class}
use Rattle.cmd_fit.specs.FitText.{FitScope, FitWorld, fit_rules, fit_start, flow_key, put_in_order}
use Rattle.cmd_fit.specs.Flows.{flow_of, is_same_flow}
use Rattle.cmd_fit.specs.declared.flow_fit.FlowFit.{FlowFit}
use Rattle.captures_text.specs.declared.fit_choice.FitChoice.{FitChoice}
use Rattle.cmd_fit.specs.declared.flow.Flow.{Flow}

-- The cells of the class that is asked for.
abbrev pub cells_of_class : Option ℕ → List CapturedCell → List CapturedCell
cells_of_class clp cells = filter (λ cell. is_of_class clp cell.cell) cells

-- The cells of a flow in a run about this.
abbrev pub cells_of_flow : FitScope → Flow → List CapturedCell → List CapturedCell
cells_of_flow scope flow cells = filter (λ cell. is_same_flow flow (flow_of scope.side scope.rules cell.cell)) cells

-- Those of the class that is asked for.
abbrev pub cells_fitted : FitScope → Flow → List CapturedCell → List CapturedCell
cells_fitted scope flow cells = cells_of_flow scope flow (cells_of_class scope.clp cells)

-- A run about the same, of all classes.
abbrev pub of_each_class : FitScope → FitScope
of_each_class scope = record scope { clp = None }

-- The moments of these cells.
abbrev pub captured_moments : List CapturedCell → List ℕ
captured_moments cells = map (λ cell. cell.moment) cells

-- The state is right for a flow with these cells, with this increment. The cells all conform to a bucket, empty at first, exactly if its
-- limit is at least the state's. With one tick less, the first cell that doesn't conform is that of the named record.
pub record IsFitOf (increment : ℕ) (cells : List CapturedCell) (fit : FlowFit) : Type 0 where
  pub count : fit.cells ≡ length cells
  pub least : (gcra : Gcra) → gcra.increment ≡ increment → AllFill gcra opening (captured_moments cells) ↔ (fit.limit ≤ gcra.limit)
  pub before : List CapturedCell
  pub named : CapturedCell
  pub later : List CapturedCell
  pub cut : cells ≡ before ++ named ∷ later
  pub number : named.number ≡ fit.number
  pub conform : (gcra : Gcra) → gcra.increment ≡ increment → gcra.limit + 1 ≡ fit.limit → AllFill gcra opening (captured_moments before)
  pub fails : (gcra : Gcra) → gcra.increment ≡ increment → gcra.limit + 1 ≡ fit.limit
      → AllFill gcra opening (captured_moments (before ++ named ∷ [])) → ⊥
  -- If no cell needs a limit, the named record is that of the first cell.
  pub first : fit.limit ≡ 0 → before ≡ []

-- After a run that no cell ends, the state of each flow is right for its cells of the class among those that count, and
-- a flow without such cells has none. With rules these are the cells of a connection to which the rules give one value,
-- and without them all cells of a connection.
abbrev pub FitsAreLeast : Type 0
FitsAreLeast = (scope : FitScope) (cells : List CapturedCell) (last : FitWorld) → RunsThrough fit_rules (fit_start scope) cells last
    → (flow : Flow) → let own = cells_fitted scope flow cells in MatchOption (fit_in flow last.fits) (own ≡ []) (IsFitOf scope.increment own)

-- The same run without a class over the cells of the class alone ends in the same states.
abbrev pub ClassesAreAlone : Type 0
ClassesAreAlone = (scope : FitScope) (cells : List CapturedCell) (last : FitWorld) → RunsThrough fit_rules (fit_start scope) cells last
    → RunsThrough fit_rules (fit_start (of_each_class scope)) (cells_of_class scope.clp cells) (record last { scope = of_each_class last.scope })

-- The moments of a flow's cells of a class never go back. A tick has at least one nanosecond.
abbrev pub MomentsGoOn : Type 0
MomentsGoOn = (tick : ℕ) (link : Option Link) (timing : TimeSource) (scope : FitScope) (frames : List (Result Record SkippedBlock)) (flow : Flow) → 0 < tick
    → GoesOn 0 (captured_moments (cells_fitted scope flow (captured_cells (filter_start tick link timing) frames)))

-- The text of such a run is the answer to the end of the cells, with the table of these states, and the run has no other text.
abbrev pub FitsAreWritten : Type 0
FitsAreWritten = (scope : FitScope) (cells : List CapturedCell) (last : FitWorld) → RunsThrough fit_rules (fit_start scope) cells last
    → (end : CellsEnd) (text : List ℕ) (done : Done)
    → IsTextOfCells fit_rules (fit_start scope) cells end text done ↔ ((text ≡ text_at_end fit_rules last end) × (done ≡ end_done end))

-- After such a run, the table has one line for each flow with cells, that of its state, and none for another. A channel has 16 bits, and a
-- value 32.
abbrev pub LinesAreOfFlows : Type 0
LinesAreOfFlows = (scope : FitScope) (cells : List CapturedCell) (last : FitWorld) → RunsThrough fit_rules (fit_start scope) cells last
    → (flow : Flow) → flow.vc.vci < 2 ^ 16 → flow.value < 2 ^ 32
    → lookup (is_at (nat_cmp (flow_key flow))) (put_in_order [] last.fits) ≡ fit_in flow last.fits

-- A file has exactly one output, with or without the octets of a file of rules.
abbrev pub CapturesHaveOneFitText : Type 0
CapturesHaveOneFitText = (choice : FitChoice) (rules : Option (List ℕ)) (octets : List ℕ)
    → ((text : List ℕ) × (done : Done) × IsFitAsked choice rules octets text done)
    × ((one other : List ℕ) (ends other_ends : Done) → IsFitAsked choice rules octets one ends
    → IsFitAsked choice rules octets other other_ends → (one ≡ other) × (ends ≡ other_ends))
