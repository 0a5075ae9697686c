-- The state of a flow among others, before and after a change.
use Rattle.std.proofs.Common.{◌≡◌, ◌≢◌, ℕ, zero, suc, ◌^◌, ◌<◌, ◌≤◌, nat_lt, Bool, true, false, cond, List, [], ◌∷◌, ◌++◌, set, Option, Some, None, refl, sym, ap, ◌∙◌, subst, arith}
use Rattle.std.specs.Prelude.{slice_get}
use Rattle.std.proofs.lemmas.Bool.{and_from, and_left, and_right, le-ltb, lt-ltb}
use Rattle.std.proofs.lemmas.Option.{same_Some}
use Rattle.cmd_fit.specs.Fits.{fit_in, is_in_64_bits, with_fit}
use Rattle.cmd_fit.specs.Flows.{is_same_flow}
use Rattle.cmd_fit.specs.declared.flow_fit.FlowFit.{FlowFit}
use Rattle.cmd_fit.specs.declared.flow.Flow.{Flow}
use Rattle.cmd_fit.proofs.FlowLemmas.{flow_differs, flow_itself, flow_same}

-- A flow without a state at any place has none.
pub fit-none : (fits : List FlowFit) (flow : Flow)
    → ((place : ℕ) (fit : FlowFit) → slice_get fits place ≡ Some fit → fit.flow ≢ flow)
    → fit_in flow fits ≡ None
fit-none [] flow none = refl
fit-none (first ∷ fits) flow none =
    let away : flow ≢ first.flow = λ e. none 0 first refl (sym e) in
    ap (λ b. cond b (Some first) (fit_in flow fits)) (flow_differs flow first.flow away)
    ∙ fit-none fits flow (λ place fit at. none (suc place) fit at)

-- A flow with one state has the one there.
pub fit-some : (fits : List FlowFit) (flow : Flow) (place : ℕ) (fit : FlowFit)
    → slice_get fits place ≡ Some fit → fit.flow ≡ flow
    → ((other : ℕ) (another : FlowFit) → slice_get fits other ≡ Some another → another.flow ≡ flow → other ≡ place)
    → fit_in flow fits ≡ Some fit
fit-some [] flow place fit at own once = cc
fit-some (first ∷ fits) flow zero fit at own once =
    let same : first ≡ fit = same_Some first fit at in
    let named : first.flow ≡ flow = ap (λ (f : FlowFit). f.flow) same ∙ own in
    let test : is_same_flow flow first.flow ≡ true = subst (λ v. is_same_flow flow v ≡ true) (sym named) (flow_itself flow) in
    ap (λ b. cond b (Some first) (fit_in flow fits)) test ∙ at
fit-some (first ∷ fits) flow (suc place) fit at own once =
    let away : flow ≢ first.flow = λ e. let early : 0 ≡ suc place = once 0 first refl (sym e) in omega (arith, early) in
    ap (λ b. cond b (Some first) (fit_in flow fits)) (flow_differs flow first.flow away)
    ∙ fit-some fits flow place fit at own (λ other another there mine. omega (arith, once (suc other) another there mine))

-- A new state for a flow that has one state is written there.
pub with_fit-at : (fits : List FlowFit) (fit : FlowFit) (place : ℕ) (old : FlowFit)
    → slice_get fits place ≡ Some old → old.flow ≡ fit.flow
    → ((other : ℕ) (another : FlowFit) → slice_get fits other ≡ Some another → another.flow ≡ fit.flow → other ≡ place)
    → with_fit fit fits ≡ set fits place fit
with_fit-at [] fit place old at own once = cc
with_fit-at (first ∷ fits) fit zero old at own once =
    let same : first ≡ old = same_Some first old at in
    let named : first.flow ≡ fit.flow = ap (λ (f : FlowFit). f.flow) same ∙ own in
    let test : is_same_flow fit.flow first.flow ≡ true = subst (λ v. is_same_flow fit.flow v ≡ true) (sym named) (flow_itself fit.flow) in
    ap (λ b. cond b (fit ∷ fits) (first ∷ with_fit fit fits)) test
with_fit-at (first ∷ fits) fit (suc place) old at own once =
    let away : fit.flow ≢ first.flow = λ e. let early : 0 ≡ suc place = once 0 first refl (sym e) in omega (arith, early) in
    ap (λ b. cond b (fit ∷ fits) (first ∷ with_fit fit fits)) (flow_differs fit.flow first.flow away)
    ∙ ap (λ (fs : List FlowFit). first ∷ fs)
    (with_fit-at fits fit place old at own (λ other another there mine. omega (arith, once (suc other) another there mine)))

-- That of a flow without one goes to the end.
pub with_fit-new : (fits : List FlowFit) (fit : FlowFit) → fit_in fit.flow fits ≡ None → with_fit fit fits ≡ fits ++ fit ∷ []
with_fit-new [] fit none = refl
with_fit-new (first ∷ fits) fit none =
    let choice : (b : Bool) → is_same_flow fit.flow first.flow ≡ b → with_fit fit (first ∷ fits) ≡ (first ∷ fits) ++ fit ∷ [] = elim [
      | true ↦ λ e. absurd (
          let no : Some first ≡ None = ap (λ b. cond b (Some first) (fit_in fit.flow fits)) (sym e) ∙ none in cc)
      | false ↦ λ e.
          ap (λ b. cond b (fit ∷ fits) (first ∷ with_fit fit fits)) e
          ∙ ap (λ (fs : List FlowFit). first ∷ fs)
          (with_fit-new fits fit (ap (λ b. cond b (Some first) (fit_in fit.flow fits)) (sym e) ∙ none))
    ] in
    choice (is_same_flow fit.flow first.flow) refl

-- Afterwards the flow has its new state.
pub fit_in-with : (fits : List FlowFit) (fit : FlowFit) → fit_in fit.flow (with_fit fit fits) ≡ Some fit
fit_in-with [] fit = ap (λ b. cond b (Some fit) None) (flow_itself fit.flow)
fit_in-with (first ∷ fits) fit =
    let choice : (b : Bool) → is_same_flow fit.flow first.flow ≡ b → fit_in fit.flow (with_fit fit (first ∷ fits)) ≡ Some fit = elim [
      | true ↦ λ e.
          ap (λ b. fit_in fit.flow (cond b (fit ∷ fits) (first ∷ with_fit fit fits))) e
          ∙ ap (λ b. cond b (Some fit) (fit_in fit.flow fits)) (flow_itself fit.flow)
      | false ↦ λ e.
          ap (λ b. fit_in fit.flow (cond b (fit ∷ fits) (first ∷ with_fit fit fits))) e
          ∙ ap (λ b. cond b (Some first) (fit_in fit.flow (with_fit fit fits))) e
          ∙ fit_in-with fits fit
    ] in
    choice (is_same_flow fit.flow first.flow) refl

-- The others have theirs.
pub fit_in-others : (fits : List FlowFit) (fit : FlowFit) (flow : Flow) → flow ≢ fit.flow → fit_in flow (with_fit fit fits) ≡ fit_in flow fits
fit_in-others [] fit flow away = ap (λ b. cond b (Some fit) None) (flow_differs flow fit.flow away)
fit_in-others (first ∷ fits) fit flow away =
    let choice : (b : Bool) → is_same_flow fit.flow first.flow ≡ b → fit_in flow (with_fit fit (first ∷ fits)) ≡ fit_in flow (first ∷ fits) = elim [
      | true ↦ λ e.
          let same : fit.flow ≡ first.flow = flow_same fit.flow first.flow e in
          ap (λ b. fit_in flow (cond b (fit ∷ fits) (first ∷ with_fit fit fits))) e
          ∙ ap (λ b. cond b (Some fit) (fit_in flow fits)) (flow_differs flow fit.flow away)
          ∙ sym (ap (λ b. cond b (Some first) (fit_in flow fits)) (flow_differs flow first.flow (λ own. away (own ∙ sym same))))
      | false ↦ λ e.
          ap (λ b. fit_in flow (cond b (fit ∷ fits) (first ∷ with_fit fit fits))) e
          ∙ ap (λ (found : Option FlowFit). cond (is_same_flow flow first.flow) (Some first) found) (fit_in-others fits fit flow away)
    ] in
    choice (is_same_flow fit.flow first.flow) refl

-- The state of a flow is its own.
pub fit_in-own : (fits : List FlowFit) (flow : Flow) (fit : FlowFit) → fit_in flow fits ≡ Some fit → fit.flow ≡ flow
fit_in-own [] flow fit at = cc
fit_in-own (first ∷ fits) flow fit at =
    let choice : (b : Bool) → is_same_flow flow first.flow ≡ b → fit.flow ≡ flow = elim [
      | true ↦ λ e.
          let there : Some first ≡ Some fit = ap (λ b. cond b (Some first) (fit_in flow fits)) (sym e) ∙ at in
          ap (λ (f : FlowFit). f.flow) (sym (same_Some first fit there)) ∙ sym (flow_same flow first.flow e)
      | false ↦ λ e. fit_in-own fits flow fit (ap (λ b. cond b (Some first) (fit_in flow fits)) (sym e) ∙ at)
    ] in
    choice (is_same_flow flow first.flow) refl

-- Whether 64 bits hold the numbers of a state.

pub in-64-bits : (fit : FlowFit) → fit.cells < 2 ^ 64 → fit.level < 2 ^ 64 → is_in_64_bits fit ≡ true
in-64-bits fit cells level =
    and_from (nat_lt fit.cells (2 ^ 64)) (nat_lt fit.level (2 ^ 64)) (lt-ltb fit.cells (2 ^ 64) cells) (lt-ltb fit.level (2 ^ 64) level)

pub too-many-cells : (fit : FlowFit) → 2 ^ 64 ≤ fit.cells → is_in_64_bits fit ≡ false
too-many-cells fit more = and_left (nat_lt fit.cells (2 ^ 64)) (nat_lt fit.level (2 ^ 64)) (le-ltb fit.cells (2 ^ 64) more)

pub too-high-level : (fit : FlowFit) → 2 ^ 64 ≤ fit.level → is_in_64_bits fit ≡ false
too-high-level fit more = and_right (nat_lt fit.cells (2 ^ 64)) (nat_lt fit.level (2 ^ 64)) (le-ltb fit.level (2 ^ 64) more)
