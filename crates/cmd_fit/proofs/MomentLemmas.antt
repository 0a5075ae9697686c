-- The moments of cells that count never go back.
use Rattle.std.proofs.Common.{◌≡◌, ℕ, ◌+◌, ◌-◌, ◌*◌, ◌/◌, ◌%◌, ◌^◌, ◌<◌, ◌≤◌, max, nat_lt, Bool, true, false, cond, List, [], ◌∷◌, Option, Some, None, Result, Ok, Err, refl, sym, subst, arith}
use Rattle.std.specs.Bool.{⊤}
use Rattle.std.specs.Prelude.{MatchOption, filter, unwrap_or}
use Rattle.std.proofs.lemmas.Bool.{ltb-false}
use Rattle.std.proofs.lemmas.Nat.{div-add-mod', le-div}
use Rattle.captures.specs.Links.{same_link}
use Rattle.captures.specs.Moments.{nearest_tick}
use Rattle.captures.specs.declared.content.NoCell.{NoCell}
use Rattle.captures.specs.declared.link.Link.{Link}
use Rattle.captures.specs.declared.reader.SkippedBlock.{SkippedBlock}
use Rattle.captures.specs.declared.reader.Record.{Record}
use Rattle.captures_text.specs.CellFilter.{FilterState, captured_cells, captured_then, filter_at_link, filter_at_time, filter_cell, filter_content, filter_marked, filter_block, filter_record, filter_start}
use Rattle.captures_text.specs.Tallies.{one_more_record}
use Rattle.captures_text.specs.declared.captured_cell.CapturedCell.{CapturedCell}
use Rattle.captures_text.specs.declared.filter.Filtered.{Filtered}
use Rattle.captures_text.specs.declared.filter.Filtered.TheVariants.{Counts, Skipped, SecondLink}
use Rattle.leaky.specs.Moments.{GoesOn}
use Rattle.cmd_fit.specs.Fits.{is_of_class}
use Rattle.cmd_fit.specs.FitLaws.{MomentsGoOn, cells_of_class, captured_moments}
use Rattle.cmd_fit.specs.Flows.{flow_of, is_same_flow}

div-grows : (a b d : ℕ) → 0 < d → a ≤ b → a / d ≤ b / d
div-grows a b d some less =
    let parts : a / d * d + a % d ≡ a = div-add-mod' a d in
    le-div (a / d) b d some (omega (arith, parts, less))

-- A later time has no fewer ticks.
ticks-grow : (a b tick : ℕ) → 0 < tick → a ≤ b → nearest_tick a tick ≤ nearest_tick b tick
ticks-grow a b tick some less = div-grows (a * 1000000000 + 2 ^ 31 * tick) (b * 1000000000 + 2 ^ 31 * tick) (2 ^ 32 * tick) (omega arith) (omega arith)

-- No cell that counted so far came after this moment.
abbrev IsOn : FilterState → ℕ → Type 0
IsOn state earliest =
    MatchOption state.clock (earliest ≡ 0) (λ clock. (clock.0 ≤ clock.1) × (earliest ≤ nearest_tick (clock.1 - clock.0) state.tick))

-- The next cell that counts is not before it.
abbrev IsNext : ℕ → ℕ → Filtered → FilterState → Type 0
IsNext tick earliest (Counts moment cell) after = (earliest ≤ moment) × (IsOn after moment × (after.tick ≡ tick))
IsNext tick earliest Skipped after = IsOn after earliest × (after.tick ≡ tick)
IsNext tick earliest (SecondLink one other) after = ⊤

abbrev Reads : ℕ → ℕ → Filtered × FilterState → Type 0
Reads tick earliest read = IsNext tick earliest read.0 read.1

module _ (record_read : Record) (first latest earliest : ℕ) (ordered : first ≤ latest) where
  at-time : (state : FilterState) (cell : List ℕ) → 0 < state.tick → earliest ≤ nearest_tick (latest - first) state.tick
      → Reads state.tick earliest (filter_at_time state first latest record_read cell)
  at-time state cell some on =
      let back : Filtered × FilterState = (
        Skipped,
        record state { clock = Some (first, latest); summary = record state.summary { back = one_more_record state.summary.back record_read.number } },
      ) in
      let moment = nearest_tick (record_read.time - first) state.tick in
      let counts : Filtered × FilterState = (Counts moment cell, record state { clock = Some (first, max latest record_read.time) }) in
      let choice : (b : Bool) → nat_lt record_read.time latest ≡ b → Reads state.tick earliest (cond b back counts) = elim [
        | true ↦ λ e. ((ordered, on), refl)
        | false ↦ λ e.
            let late : latest ≤ record_read.time = ltb-false record_read.time latest e in
            let later : nearest_tick (latest - first) state.tick ≤ moment =
            ticks-grow (latest - first) (record_read.time - first) state.tick some (omega (arith, late)) in
            let up : record_read.time - first ≤ max latest record_read.time - first = omega (arith, late) in
            let here : first ≤ max latest record_read.time = omega (arith, late, ordered) in
            (omega (arith, on, later), ((here, ticks-grow (record_read.time - first) (max latest record_read.time - first) state.tick some up), refl))
      ] in
      choice (nat_lt record_read.time latest) refl

  at-link : (state : FilterState) (cell : List ℕ) (link : Option Link) → 0 < state.tick → earliest ≤ nearest_tick (latest - first) state.tick
      → Reads state.tick earliest (filter_at_link state first latest record_read cell link)
  at-link state cell None some on = at-time (record state { link = Some record_read.link }) cell some on
  at-link state cell (Some link) some on =
      let other : Filtered × FilterState = (
        Skipped,
        record state { clock = Some (first, latest); summary = record state.summary { other_link = one_more_record state.summary.other_link record_read.number } },
      ) in
      let several : Filtered × FilterState = (SecondLink link record_read.link, state) in
      let asked : (b : Bool) → Reads state.tick earliest (cond b other several) = elim [
        | true ↦ ((ordered, on), refl)
        | false ↦ tt
      ] in
      let choice : (b : Bool) → Reads state.tick earliest (cond b (filter_at_time state first latest record_read cell) (cond state.asked other several)) = elim [
        | true ↦ at-time state cell some on
        | false ↦ asked state.asked
      ] in
      choice (same_link link record_read.link)

at-clock : (state : FilterState) (record_read : Record) (cell : List ℕ) (earliest : ℕ) (clock : Option (ℕ × ℕ)) → 0 < state.tick
    → MatchOption clock (earliest ≡ 0) (λ clock. (clock.0 ≤ clock.1) × (earliest ≤ nearest_tick (clock.1 - clock.0) state.tick))
    → Reads state.tick earliest (filter_cell state (unwrap_or clock (record_read.time, record_read.time)) record_read cell)
at-clock state record_read cell earliest None some on =
    let same : record_read.time ≤ record_read.time = omega arith in
    let none : earliest ≤ nearest_tick (record_read.time - record_read.time) state.tick = omega (arith, on) in
    at-link record_read record_read.time record_read.time earliest same state cell state.link some none
at-clock state record_read cell earliest (Some clock) some on = at-link record_read clock.0 clock.1 earliest on.0 state cell state.link some on.1

at-content : (state : FilterState) (record_read : Record) (content : Result (List ℕ) NoCell) (earliest : ℕ) → 0 < state.tick → IsOn state earliest
    → Reads state.tick earliest (filter_content state record_read content)
at-content state record_read (Err why) earliest some on = (on, refl)
at-content state record_read (Ok cell) earliest some on = at-clock state record_read cell earliest state.clock some on

reads-on : (state : FilterState) (record_read : Record) (earliest : ℕ) → 0 < state.tick → IsOn state earliest
    → Reads state.tick earliest (filter_record state record_read)
reads-on state record_read earliest some on = at-content (filter_marked state record_read) record_read record_read.content earliest some on

captured-on : (answer : Filtered) (after : FilterState) (tick earliest number : ℕ) (later : List CapturedCell) → IsNext tick earliest answer after
    → ((from : ℕ) → IsOn after from → after.tick ≡ tick → GoesOn from (captured_moments later))
    → GoesOn earliest (captured_moments (captured_then answer number later))
captured-on (Counts moment cell) after tick earliest number later next rest = (next.0, rest moment next.1.0 next.1.1)
captured-on Skipped after tick earliest number later next rest = rest earliest next.0 next.1
captured-on (SecondLink one other) after tick earliest number later next rest = tt

cells-go-on : (state : FilterState) (frames : List (Result Record SkippedBlock)) (earliest : ℕ) → 0 < state.tick → IsOn state earliest
    → GoesOn earliest (captured_moments (captured_cells state frames))
cells-go-on state [] earliest some on = tt
cells-go-on state (Err block ∷ frames) earliest some on = cells-go-on (filter_block state block) frames earliest some on
cells-go-on state (Ok record_read ∷ frames) earliest some on =
    let read = filter_record state record_read in
    captured-on read.0 read.1 state.tick earliest record_read.number (captured_cells read.1 frames) (reads-on state record_read earliest some on)
    (λ from ahead same. cells-go-on read.1 frames from (subst (λ n. 0 < n) (sym same) some) ahead)

-- So do those of some of the cells.
GoesOn-from : (earlier later : ℕ) (moments : List ℕ) → earlier ≤ later → GoesOn later moments → GoesOn earlier moments
GoesOn-from earlier later [] less goes = tt
GoesOn-from earlier later (moment ∷ moments) less goes = (omega (arith, less, goes.0), goes.1)

GoesOn-filter : (test : CapturedCell → Bool) (earliest : ℕ) (cells : List CapturedCell) → GoesOn earliest (captured_moments cells)
    → GoesOn earliest (captured_moments (filter test cells))
GoesOn-filter test earliest [] goes = tt
GoesOn-filter test earliest (cell ∷ cells) goes =
    let choice : (b : Bool) → GoesOn earliest (captured_moments (cond b (cell ∷ filter test cells) (filter test cells))) = elim [
      | true ↦ (goes.0, GoesOn-filter test cell.moment cells goes.1)
      | false ↦ GoesOn-from earliest cell.moment (captured_moments (filter test cells)) goes.0 (GoesOn-filter test cell.moment cells goes.1)
    ] in
    choice (test cell)

pub moments-go-on : MomentsGoOn
moments-go-on tick link timing scope frames flow some =
    let cells = captured_cells (filter_start tick link timing) frames in
    GoesOn-filter (λ captured. is_same_flow flow (flow_of scope.side scope.rules captured.cell)) 0 (cells_of_class scope.clp cells)
    (GoesOn-filter (λ captured. is_of_class scope.clp captured.cell) 0 cells (cells-go-on (filter_start tick link timing) frames 0 some refl))
