-- A run of `fit` over the cells that count.
use Rattle.std.proofs.Common.{◌≡◌, ◌≢◌, ℕ, Bool, true, false, cond, List, [], ◌∷◌, Option, Some, None, Result, Ok, Err, refl, sym, ap, ◌∙◌, subst}
use Rattle.std.specs.Prelude.{MatchOption, length, nat_le, option_map, unwrap_or}
use Rattle.std.proofs.lemmas.Option.{same_Some}
use Rattle.captures_text.specs.CaptureText.{RunsThrough, end_done, text_at_end}
use Rattle.captures_text.specs.CellFilter.{CellsEnd}
use Rattle.captures_text.specs.inner.FixedRules.{fixed_text, text_then}
use Rattle.captures_text.proofs.Public.{fixed_only}
use Rattle.captures_text.specs.declared.captured_cell.CapturedCell.{CapturedCell}
use Rattle.text_io.specs.declared.ending.Done.{Done}
use Rattle.cmd_fit.specs.Fits.{fit_after, fit_in, fits_after, fits_from, is_in_64_bits, is_of_class, most_connections, no_cells, with_fit, with_checked_fit}
use Rattle.cmd_fit.specs.Flows.{flow_of, is_same_flow}
use Rattle.cmd_fit.specs.FitText.{FitScope, FitWorld, fit_answer, fit_closes, fit_rules, fit_start, fit_steps, fits_with_cell}
use Rattle.cmd_fit.specs.FitLaws.{ClassesAreAlone, FitsAreLeast, FitsAreWritten, IsFitOf, cells_fitted, cells_of_class, cells_of_flow, of_each_class}
use Rattle.cmd_fit.specs.declared.flow_fit.FlowFit.{FlowFit}
use Rattle.cmd_fit.specs.declared.fault.FitFault.{FitFault}
use Rattle.cmd_fit.specs.declared.fault.FitFault.TheVariants.{TooManyConnections, TooLarge}
use Rattle.cmd_fit.specs.declared.flow.Flow.{Flow}
use Rattle.cmd_fit.proofs.FitLemmas.{fit_in-others, fit_in-own, fit_in-with}
use Rattle.cmd_fit.proofs.FlowLemmas.{flow_itself, flow_same}
use Rattle.cmd_fit.proofs.LeastLemmas.{through, through-is}

-- The state of a flow after these cells of it, if it has one then.
abbrev over : ℕ → Flow → Option FlowFit → List CapturedCell → Option FlowFit
over increment flow found [] = found
over increment flow found (cell ∷ cells) =
    over increment flow (Some (fit_after increment (unwrap_or found (no_cells flow cell.number)) cell.moment cell.number)) cells

over-through : (increment : ℕ) (flow : Flow) (fit : FlowFit) (cells : List CapturedCell)
    → over increment flow (Some fit) cells ≡ Some (through increment fit cells)
over-through increment flow fit [] = refl
over-through increment flow fit (cell ∷ cells) = over-through increment flow (fit_after increment fit cell.moment cell.number) cells

-- The new states are those with one more.
held-with : (fit : FlowFit) (fits new : List FlowFit) → with_checked_fit fit fits ≡ Ok new → with_fit fit fits ≡ new
held-with fit fits new is =
    let choice : (b : Bool) → is_in_64_bits fit ≡ b → with_fit fit fits ≡ new = elim [
      | true ↦ λ e.
          let held : ◌≡◌ {A = Result (List FlowFit) FitFault} (Ok (with_fit fit fits)) (Ok new) =
          ap (λ b. cond b (Ok (with_fit fit fits)) (Err TooLarge)) (sym e) ∙ is in
          cc
      | false ↦ λ e. absurd (
          let held : ◌≡◌ {A = Result (List FlowFit) FitFault} (Err TooLarge) (Ok new) =
          ap (λ b. cond b (Ok (with_fit fit fits)) (Err TooLarge)) (sym e) ∙ is in
          cc)
    ] in
    choice (is_in_64_bits fit) refl

-- The states grew by one, which is the one after a cell.
pub record GrewBy (increment : ℕ) (fits : List FlowFit) (flow : Flow) (moment number : ℕ) (new : List FlowFit) : Type 0 where
  pub fit : FlowFit
  pub own : fit.flow ≡ flow
  pub is : with_fit fit fits ≡ new
  pub after : fit ≡ fit_after increment (unwrap_or (fit_in flow fits) (no_cells flow number)) moment number

pub grew-by : (increment : ℕ) (fits : List FlowFit) (flow : Flow) (moment number : ℕ) (new : List FlowFit)
    → fits_after increment fits flow moment number ≡ Ok new → GrewBy increment fits flow moment number new
grew-by increment fits flow moment number new is =
    let choice : (found : Option FlowFit) → fit_in flow fits ≡ found → GrewBy increment fits flow moment number new = elim [
      | Some fit ↦ λ e.
          let after = fit_after increment fit moment number in
          record {
            fit = after;
            own = fit_in-own fits flow fit e;
            is = held-with after fits new
                (ap (λ (found : Option FlowFit). fits_from increment fits found flow moment number) (sym e) ∙ is);
            after = ap (λ (found : Option FlowFit). fit_after increment (unwrap_or found (no_cells flow number)) moment number) (sym e);
          }
      | None ↦ λ e.
          let after = fit_after increment (no_cells flow number) moment number in
          let held : cond (nat_le most_connections (length fits)) (Err TooManyConnections) (Ok (with_fit after fits)) ≡ Ok new =
          ap (λ (found : Option FlowFit). fits_from increment fits found flow moment number) (sym e) ∙ is in
          let few : (b : Bool) → nat_le most_connections (length fits) ≡ b → with_fit after fits ≡ new = elim [
            | true ↦ λ full. absurd (
                let no : ◌≡◌ {A = Result (List FlowFit) FitFault} (Err TooManyConnections) (Ok new) =
                ap (λ b. cond b (Err TooManyConnections) (Ok (with_fit after fits))) (sym full) ∙ held in
                cc)
            | false ↦ λ full.
                let grew : ◌≡◌ {A = Result (List FlowFit) FitFault} (Ok (with_fit after fits)) (Ok new) =
                ap (λ b. cond b (Err TooManyConnections) (Ok (with_fit after fits))) (sym full) ∙ held in
                cc
          ] in
          record {
            fit = after;
            own = refl;
            is = few (nat_le most_connections (length fits)) refl;
            after = ap (λ (found : Option FlowFit). fit_after increment (unwrap_or found (no_cells flow number)) moment number) (sym e);
          }
    ] in
    choice (fit_in flow fits) refl

-- What a cell does to the states.
record TakesCell (increment : ℕ) (fits : List FlowFit) (flow : Flow) (moment number : ℕ) (new : List FlowFit) : Type 0 where
  here : fit_in flow new ≡ Some (fit_after increment (unwrap_or (fit_in flow fits) (no_cells flow number)) moment number)
  others : (other : Flow) → other ≢ flow → fit_in other new ≡ fit_in other fits

takes-cell : (increment : ℕ) (fits : List FlowFit) (flow : Flow) (moment number : ℕ) (new : List FlowFit)
    → fits_after increment fits flow moment number ≡ Ok new → TakesCell increment fits flow moment number new
takes-cell increment fits flow moment number new is =
    let grew = grew-by increment fits flow moment number new is in
    record {
      here = ap (λ (v : Flow). fit_in v new) (sym grew.own) ∙ ap (fit_in grew.fit.flow) (sym grew.is) ∙ fit_in-with fits grew.fit
          ∙ ap (λ (f : FlowFit). Some f) grew.after;
      others = λ other away.
          ap (fit_in other) (sym grew.is) ∙ fit_in-others fits grew.fit other (λ e. away (e ∙ grew.own));
    }

-- A cell after which the run goes on.
record GoesOn (world : FitWorld) (captured : CapturedCell) (next : FitWorld) : Type 0 where
  scope : next.scope ≡ world.scope
  silent : (fit_steps world captured).0 ≡ []
  fits : (flow : Flow) (later : List CapturedCell) → over world.scope.increment flow (fit_in flow next.fits) (cells_fitted world.scope flow later)
      ≡ over world.scope.increment flow (fit_in flow world.fits) (cells_fitted world.scope flow (captured ∷ later))

goes-by : (world : FitWorld) (captured : CapturedCell) (next : FitWorld) (answer : Result (List FlowFit) FitFault)
    → fits_with_cell world captured ≡ answer
    → is_of_class world.scope.clp captured.cell ≡ true → (fit_answer world captured.number answer).1 ≡ Some next → GoesOn world captured next
goes-by world captured next (Err fault) is of goes = absurd (let no : None ≡ Some next = goes in cc)
goes-by world captured next (Ok new) is of goes =
    let to : FitWorld = record world { fits = new } in
    let same : to ≡ next = same_Some to next goes in
    let named = flow_of world.scope.side world.scope.rules captured.cell in
    let takes = takes-cell world.scope.increment world.fits named captured.moment captured.number new is in
    let fits : new ≡ next.fits = ap (λ (w : FitWorld). w.fits) same in
    record {
      scope = ap (λ (w : FitWorld). w.scope) (sym same);
      silent = ap (λ b. (cond b (fit_answer world captured.number (fits_with_cell world captured)) ([], Some world)).0) of
          ∙ ap (λ (r : Result (List FlowFit) FitFault). (fit_answer world captured.number r).0) is;
      fits = λ flow later.
          let few = cells_of_class world.scope.clp later in
          let rest = cells_of_flow world.scope flow few in
          let with_it : cells_of_class world.scope.clp (captured ∷ later) ≡ captured ∷ few = ap (λ b. cond b (captured ∷ few) few) of in
          let choice : (b : Bool) → is_same_flow flow named ≡ b
          → over world.scope.increment flow (fit_in flow new) rest
          ≡ over world.scope.increment flow (fit_in flow world.fits) (cond b (captured ∷ rest) rest) = elim [
            | true ↦ λ e.
                let own : flow ≡ named = flow_same flow named e in
                let here : fit_in flow new ≡ Some (fit_after world.scope.increment (unwrap_or (fit_in flow world.fits) (no_cells flow captured.number)) captured.moment captured.number) =
                subst (λ (v : Flow). fit_in v new ≡ Some (fit_after world.scope.increment (unwrap_or (fit_in v world.fits) (no_cells v captured.number)) captured.moment captured.number))
                (sym own) takes.here in
                ap (λ (found : Option FlowFit). over world.scope.increment flow found rest) here
            | false ↦ λ e.
                let away : flow ≢ named = λ own.
                let itself : is_same_flow flow flow ≡ true = flow_itself flow in
                let other : is_same_flow flow flow ≡ false = subst (λ (v : Flow). is_same_flow flow v ≡ false) (sym own) e in
                let no : true ≡ false = sym itself ∙ other in
                cc in
                ap (λ (found : Option FlowFit). over world.scope.increment flow found rest) (takes.others flow away)
          ] in
          ap (λ (fs : List FlowFit). over world.scope.increment flow (fit_in flow fs) rest) (sym fits)
          ∙ choice (is_same_flow flow named) refl
          ∙ ap (λ (its : List CapturedCell). over world.scope.increment flow (fit_in flow world.fits) (cells_of_flow world.scope flow its)) (sym with_it);
    }

goes-on : (world : FitWorld) (captured : CapturedCell) (next : FitWorld) → (fit_steps world captured).1 ≡ Some next → GoesOn world captured next
goes-on world captured next goes =
    let answer = fits_with_cell world captured in
    let choice : (b : Bool) → is_of_class world.scope.clp captured.cell ≡ b
    → (cond b (fit_answer world captured.number answer) ([], Some world)).1 ≡ Some next → GoesOn world captured next = elim [
      | true ↦ λ of here. goes-by world captured next answer refl of here
      | false ↦ λ of here.
          let same : world ≡ next = same_Some world next here in
          record {
            scope = ap (λ (w : FitWorld). w.scope) (sym same);
            silent = ap (λ b. (cond b (fit_answer world captured.number answer) ([], Some world)).0) of;
            fits = λ flow later.
                let few = cells_of_class world.scope.clp later in
                let without : cells_of_class world.scope.clp (captured ∷ later) ≡ few = ap (λ b. cond b (captured ∷ few) few) of in
                ap (λ (w : FitWorld). over world.scope.increment flow (fit_in flow w.fits) (cells_of_flow world.scope flow few)) (sym same)
                ∙ ap (λ (its : List CapturedCell). over world.scope.increment flow (fit_in flow world.fits) (cells_of_flow world.scope flow its)) (sym without);
          }
    ] in
    choice (is_of_class world.scope.clp captured.cell) refl goes

-- The states of a run.
run-fits : (world last : FitWorld) (cells : List CapturedCell) → RunsThrough fit_rules world cells last → (flow : Flow)
    → fit_in flow last.fits ≡ over world.scope.increment flow (fit_in flow world.fits) (cells_fitted world.scope flow cells)
run-fits world last [] leads flow = ap (λ (w : FitWorld). fit_in flow w.fits) leads
run-fits world last (captured ∷ cells) (here, next, step, leads) flow =
    let goes = goes-on world captured next (ap (λ (s : List ℕ × Option FitWorld). s.1) step) in
    let Rest : FitScope → Type 0 = λ scope.
    fit_in flow last.fits ≡ over scope.increment flow (fit_in flow next.fits) (cells_fitted scope flow cells) in
    let same : Rest world.scope = subst Rest goes.scope (run-fits next last cells leads flow) in
    same ∙ goes.fits flow cells

-- What the state is that a flow has after all its cells.
all-cells : (increment : ℕ) (flow : Flow) (cells : List CapturedCell) (found : Option FlowFit) → found ≡ over increment flow None cells
    → MatchOption found (cells ≡ []) (IsFitOf increment cells)
all-cells increment flow [] found is = subst (λ (f : Option FlowFit). MatchOption f (◌≡◌ {A = List CapturedCell} [] []) (IsFitOf increment [])) (sym is) refl
all-cells increment flow (cell ∷ cells) found is =
    let all = cell ∷ cells in
    let state = through increment (no_cells flow cell.number) all in
    let there : Some state ≡ found = sym (is ∙ over-through increment flow (fit_after increment (no_cells flow cell.number) cell.moment cell.number) cells) in
    subst (λ (f : Option FlowFit). MatchOption f (all ≡ []) (IsFitOf increment all)) there (through-is increment flow cell cells)

pub fits-are-least : FitsAreLeast
fits-are-least scope cells last leads flow =
    all-cells scope.increment flow (cells_fitted scope flow cells) (fit_in flow last.fits) (run-fits (fit_start scope) last cells leads flow)

-- The state of a run without a class.
abbrev of_all : FitWorld → FitWorld
of_all world = record world { scope = of_each_class world.scope }

-- Its answer to a cell is the same.
same-answer : (world : FitWorld) (number : ℕ) (answer : Result (List FlowFit) FitFault)
    → fit_answer (of_all world) number answer ≡ ((fit_answer world number answer).0, option_map of_all (fit_answer world number answer).1)
same-answer world number (Ok fits) = refl
same-answer world number (Err fault) = refl

run-alone : (world last : FitWorld) (cells : List CapturedCell) → RunsThrough fit_rules world cells last
    → RunsThrough fit_rules (of_all world) (cells_of_class world.scope.clp cells) (of_all last)
run-alone world last [] leads = ap of_all leads
run-alone world last (captured ∷ cells) (here, next, step, leads) =
    let answer = fits_with_cell world captured in
    let goes = goes-on world captured next (ap (λ (s : List ℕ × Option FitWorld). s.1) step) in
    let few = cells_of_class world.scope.clp cells in
    let rest : RunsThrough fit_rules (of_all next) few (of_all last) =
    subst (λ (s : FitScope). RunsThrough fit_rules (of_all next) (cells_of_class s.clp cells) (of_all last)) goes.scope (run-alone next last cells leads) in
    let choice : (b : Bool) → cond b (fit_answer world captured.number answer) ([], Some world) ≡ (here, Some next)
    → RunsThrough fit_rules (of_all world) (cond b (captured ∷ few) few) (of_all last) = elim [
      | true ↦ λ is.
          let same : fit_answer (of_all world) captured.number answer ≡ (here, Some (of_all next)) =
          same-answer world captured.number answer ∙ ap (λ (s : List ℕ × Option FitWorld). (s.0, option_map of_all s.1)) is in
          (here, of_all next, same, rest)
      | false ↦ λ is.
          subst (λ (w : FitWorld). RunsThrough fit_rules (of_all w) few (of_all last))
          (sym (same_Some world next (ap (λ (s : List ℕ × Option FitWorld). s.1) is))) rest
    ] in
    choice (is_of_class world.scope.clp captured.cell) step

pub classes-are-alone : ClassesAreAlone
classes-are-alone scope cells last leads = run-alone (fit_start scope) last cells leads

-- The text of a run.
run-text : (world last : FitWorld) (cells : List CapturedCell) → RunsThrough fit_rules world cells last → (end : CellsEnd)
    → fixed_text fit_steps fit_closes world cells end ≡ (text_at_end fit_rules last end, end_done end)
run-text world last [] leads end = ap (λ (w : FitWorld). (text_at_end fit_rules w end, end_done end)) (sym leads)
run-text world last (captured ∷ cells) (here, next, step, leads) end =
    let on : (fit_steps world captured).1 ≡ Some next = ap (λ (s : List ℕ × Option FitWorld). s.1) step in
    let goes = goes-on world captured next on in
    let rest : FitWorld → List ℕ × Done = λ w. fixed_text fit_steps fit_closes w cells end in
    ap (λ (text : List ℕ). text_then text (fit_steps world captured).1 rest) goes.silent
    ∙ ap (λ (after : Option FitWorld). text_then [] after rest) on
    ∙ run-text next last cells leads end

pub fits-are-written : FitsAreWritten
fits-are-written scope cells last leads end text done =
    fixed_only fit_steps fit_closes cells end (fit_start scope) (text_at_end fit_rules last end) text (end_done end) done
    (run-text (fit_start scope) last cells leads end)
