-- The text of `fit`: a line for each flow of a capture, in order of path, channel and value, and comments about the
-- records that were passed over.
use Rattle.std.specs.Prelude.{ℕ, ◌+◌, ◌*◌, if◌then◌else◌, Bool, List, [], ◌∷◌, ◌++◌, codes, decimal, flat_map, is_some, Option, Some, None, Result, Ok, Err}
use Rattle.std.specs.BTreeMap.{insert_entry}
use Rattle.std.specs.Map.{values_of}
use Rattle.std.specs.Ordering.{nat_cmp}
use Rattle.captures.specs.declared.fault.Fault.{Fault}
use Rattle.captures.specs.declared.link.Link.{Link}
use Rattle.captures.specs.declared.packet_time.TimeSource.{TimeSource}
use Rattle.captures_text.specs.CaptureText.{IsCaptureText}
use Rattle.captures_text.specs.CellFilter.{filter_start}
use Rattle.captures_text.specs.CellRules.{CellRules, fixed_rules}
use Rattle.captures_text.specs.RunLines.{closing_lines}
use Rattle.captures_text.specs.declared.captured_cell.CapturedCell.{CapturedCell}
use Rattle.captures_text.specs.declared.reading_summary.ReadingSummary.{ReadingSummary}
use Rattle.rules_text.specs.RulesRead.{RulesRead}
use Rattle.text_io.specs.declared.ending.Done.{Done}
use Rattle.upc_cell.specs.Side.{has_paths}
use Rattle.upc_cell.specs.declared.side.Side.{Side}
use Rattle.upc_cell.specs.declared.vc.Vc.{Vc}
use Rattle.text_words.specs.FaultLines.{line}
use Rattle.cmd_fit.specs.Fits.{fits_after, is_of_class}
use Rattle.cmd_fit.specs.Flows.{flow_of}
use Rattle.cmd_fit.specs.declared.flow_fit.FlowFit.{FlowFit}
use Rattle.cmd_fit.specs.declared.fault.FitFault.{FitFault}
use Rattle.cmd_fit.specs.declared.fault.FitFault.TheVariants.{TooManyConnections, TooLarge}
use Rattle.cmd_fit.specs.declared.flow.Flow.{Flow}

-- The heading. `valued` says whether rules are given, so that lines have a value.
abbrev pub heading : Bool → List ℕ
heading valued = if valued then codes "vpi\tvci\tvalue\tcells\tlimit\trecord\n" else codes "vpi\tvci\tcells\tlimit\trecord\n"

-- The column of a channel: a star where connections are virtual paths.
abbrev pub channel_column : Side → ℕ → List ℕ
channel_column side vci = if has_paths side then codes "*\t" else decimal vci ++ codes "\t"

-- The columns of a connection at this side: its path and its channel.
abbrev pub connection_columns : Side → Vc → List ℕ
connection_columns side vc = (decimal vc.vpi ++ codes "\t") ++ channel_column side vc.vci

-- The column of a value, if rules are given.
abbrev pub value_column : Bool → ℕ → List ℕ
value_column valued value = if valued then decimal value ++ codes "\t" else []

-- The columns after those of the flow: the number of its cells, its least limit in ticks, and the number of the first record whose cell
-- needs that limit.
abbrev pub limit_columns : FlowFit → List ℕ
limit_columns fit = (decimal fit.cells ++ codes "\t") ++ ((decimal fit.limit ++ codes "\t") ++ (decimal fit.number ++ codes "\n"))

-- The line of a flow.
abbrev pub fit_line : Side → Bool → FlowFit → List ℕ
fit_line side valued fit = connection_columns side fit.flow.vc ++ (value_column valued fit.flow.value ++ limit_columns fit)

-- The number that orders flows by path, channel and value. A value has 32 bits, and a channel 16.
abbrev pub flow_key : Flow → ℕ
flow_key flow = 4294967296 * (65536 * flow.vc.vpi + flow.vc.vci) + flow.value

-- These ordered states, with others put where they belong.
abbrev pub put_in_order : List (ℕ × FlowFit) → List FlowFit → List (ℕ × FlowFit)
put_in_order ordered [] = ordered
put_in_order ordered (fit ∷ fits) = put_in_order (insert_entry nat_cmp ordered (flow_key fit.flow) fit) fits

-- The lines of the flows, in order of path, channel and value.
abbrev pub fit_lines : Side → Bool → List FlowFit → List ℕ
fit_lines side valued fits = flat_map (fit_line side valued) (values_of (put_in_order [] fits))

-- The answer to a cell that ends the run: the fault, and the number of the cell's record.
abbrev pub fit_fault_line : FitFault → ℕ → List ℕ
fit_fault_line TooManyConnections number = line (codes "fault fit 1 TooManyConnections " ++ decimal number)
fit_fault_line TooLarge number = line (codes "fault fit 2 TooLarge " ++ decimal number)

-- What a run is about: the increment in ticks, the side at which headers are read, the rules by whose values lines are told apart, if any
-- are given, and the cell loss priority of the cells that are read, if not all are.
pub record FitScope : Type 0 where
  pub increment : ℕ
  pub side : Side
  pub rules : Option RulesRead
  pub clp : Option ℕ

-- The state of a run: what it is about, and the states of the flows, in the order of their first cells.
pub record FitWorld : Type 0 where
  pub scope : FitScope
  pub fits : List FlowFit

-- The state at first.
abbrev pub fit_start : FitScope → FitWorld
fit_start scope = record { scope = scope; fits = [] }

-- The answer to a cell, whose record has this number, after which these are the states, or which ends the run for this reason.
abbrev pub fit_answer : FitWorld → ℕ → Result (List FlowFit) FitFault → List ℕ × Option FitWorld
fit_answer world number (Ok fits) = ([], Some (record world { fits = fits }))
fit_answer world number (Err fault) = (fit_fault_line fault number, None)

-- The states after a cell, or why it ends the run.
abbrev pub fits_with_cell : FitWorld → CapturedCell → Result (List FlowFit) FitFault
fits_with_cell world captured =
    fits_after world.scope.increment world.fits (flow_of world.scope.side world.scope.rules captured.cell) captured.moment captured.number

-- The answer to a cell. One of another class changes nothing.
abbrev pub fit_steps : FitWorld → CapturedCell → List ℕ × Option FitWorld
fit_steps world captured =
    if is_of_class world.scope.clp captured.cell then fit_answer world captured.number (fits_with_cell world captured) else ([], Some world)

-- The answer to the end: the table, the comments, and the fault if there is one.
abbrev pub fit_closes : FitWorld → ReadingSummary → Option Fault → List ℕ
fit_closes world summary ending =
    heading (is_some world.scope.rules)
    ++ (fit_lines world.scope.side (is_some world.scope.rules) world.fits ++ closing_lines summary ending)

-- The rules of `fit`.
abbrev pub fit_rules : CellRules FitWorld
fit_rules = fixed_rules fit_steps fit_closes

-- The output for a whole file, and how the run ends, of a run about this, with a tick of this many nanoseconds, the
-- link that was asked for and the time of a record that counts.
abbrev pub IsFitText : FitScope → ℕ → Option Link → TimeSource → List ℕ → List ℕ → Done → Type 0
IsFitText scope tick link timing = IsCaptureText fit_rules (filter_start tick link timing) (fit_start scope)
