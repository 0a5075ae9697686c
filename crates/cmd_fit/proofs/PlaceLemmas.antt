-- A map that leads to the states of flows, before and after a change.
use Rattle.std.proofs.Common.{◌≡◌, ◌≢◌, ℕ, ◌<◌, ◌≤◌, List, [], ◌∷◌, ◌++◌, length, set, cond, Option, Some, None, Ok, Err, refl, sym, ap, ◌∙◌, subst, inl, inr}
use Rattle.std.specs.Prelude.{slice_get}
use Rattle.std.specs.BTreeMap.{is_at}
use Rattle.std.specs.Ordering.{nat_cmp}
use Rattle.std.proofs.lemmas.Bool.{cases_eq, le-leb, lt-leb}
use Rattle.std.proofs.lemmas.Option.{same_Some, slice_get_within}
use Rattle.cmd_fit.specs.Fits.{fit_after, fit_in, fits_after, fits_from, most_connections, no_cells, with_fit}
use Rattle.cmd_fit.specs.FitText.{flow_key}
use Rattle.cmd_fit.specs.declared.flow_fit.FlowFit.{FlowFit}
use Rattle.cmd_fit.specs.declared.fault.FitFault.{FitFault}
use Rattle.cmd_fit.specs.declared.fault.FitFault.TheVariants.{TooManyConnections, TooLarge}
use Rattle.cmd_fit.specs.declared.flow.Flow.{Flow}
use Rattle.cmd_fit.specs.inner.FlowPlaces.{IsLedTo, IsSmall, KeepsFits, TakesAt, state_place, taken_as}
use Rattle.cmd_fit.proofs.FitLemmas.{fit-none, fit-some, with_fit-at, with_fit-new}
use Rattle.cmd_fit.proofs.FlowLemmas.{flow_cases, key-apart, key-itself, keys-apart}
use Rattle.cmd_fit.proofs.Places.{slice_get-front, slice_get-last, slice_get-pushed, slice_get-set, slice_get-set_other, slice_get-set_same}

-- No flow.
pub KeepsFits-none : KeepsFits [] []
KeepsFits-none = record {
  found = λ flow small place at. absurd (let no : None ≡ Some place = at in cc);
  kept = λ place fit at. cc;
}

module _ (places : List (ℕ × ℕ)) (fits : List FlowFit) (is : KeepsFits places fits) where
  -- A flow has one place.
  once : (flow : Flow) (place : ℕ) → state_place places flow ≡ Some place
      → (other : ℕ) (another : FlowFit) → slice_get fits other ≡ Some another → another.flow ≡ flow → other ≡ place
  once flow place at other another there own =
      same_Some other place (sym (is.kept other another there).leads ∙ ap (state_place places) own ∙ at)

  pub found-fit : (flow : Flow) (small : IsSmall flow) (place : ℕ) (at : state_place places flow ≡ Some place)
      → fit_in flow fits ≡ Some (is.found flow small place at).fit
  found-fit flow small place at =
      let has = is.found flow small place at in
      fit-some fits flow place has.fit has.there has.own (once flow place at)

  pub found-within : (flow : Flow) (small : IsSmall flow) (place : ℕ) → state_place places flow ≡ Some place → place < length fits
  found-within flow small place at = let has = is.found flow small place at in slice_get_within fits place has.fit has.there

  pub absent-fit : (flow : Flow) → state_place places flow ≡ None → fit_in flow fits ≡ None
  absent-fit flow none = fit-none fits flow (λ place fit at own.
      let no : Some place ≡ None = sym (is.kept place fit at).leads ∙ ap (state_place places) own ∙ none in
      cc)

  -- A new state at a place.
  module _ (place : ℕ) (old fit : FlowFit) (at : slice_get fits place ≡ Some old) (own : fit.flow ≡ old.flow) where
    within : place < length fits
    within = slice_get_within fits place old at

    named-here : (there : ℕ) (other : FlowFit) → there ≡ place → fit ≡ other → IsLedTo places there other.flow
    named-here there other same is_fit =
        let here = is.kept place old at in
        let named : other.flow ≡ old.flow = ap (λ (f : FlowFit). f.flow) (sym is_fit) ∙ own in
        record {
          leads = ap (state_place places) named ∙ here.leads ∙ ap (λ (n : ℕ). Some n) (sym same);
          small = subst IsSmall (sym named) here.small;
        }

    pub KeepsFits-set : KeepsFits places (set fits place fit)
    KeepsFits-set = record {
      found = λ flow small there line. elim (cases_eq there place) [
        | inl same ↦
            let has = is.found flow small there line in
            let was : has.fit ≡ old = same_Some has.fit old (sym has.there ∙ ap (slice_get fits) same ∙ at) in
            record {
              fit = fit;
              there = ap (slice_get (set fits place fit)) same ∙ slice_get-set_same fits place fit within;
              own = own ∙ ap (λ (f : FlowFit). f.flow) (sym was) ∙ has.own;
            }
        | inr away ↦
            let has = is.found flow small there line in
            record {
              fit = has.fit;
              there = slice_get-set_other fits place there fit away ∙ has.there;
              own = has.own;
            }
      ];
      kept = λ there other line. elim (slice_get-set fits place there fit other line) [
        | inl same ↦ named-here there other same.0 same.1
        | inr away ↦ is.kept there other away.1
      ];
    }

    pub with_fit-set : with_fit fit fits ≡ set fits place fit
    with_fit-set =
        with_fit-at fits fit place old at (sym own) (once fit.flow place (ap (state_place places) own ∙ (is.kept place old at).leads))

  -- The first state of a flow, at the end. The new entries have its place under its key, and the earlier ones under others.
  module _ (new : List (ℕ × ℕ)) (fit : FlowFit) (none : fit_in fit.flow fits ≡ None) (small : IsSmall fit.flow)
      (put : (flow : Flow) → state_place new flow ≡ cond (is_at (nat_cmp (flow_key fit.flow)) (flow_key flow)) (Some (length fits)) (state_place places flow)) where
    here : state_place new fit.flow ≡ Some (length fits)
    here = put fit.flow ∙ ap (λ b. cond b (Some (length fits)) (state_place places fit.flow)) (key-itself fit.flow)

    others : (flow : Flow) → IsSmall flow → flow ≢ fit.flow → state_place new flow ≡ state_place places flow
    others flow also away =
        put flow
        ∙ ap (λ b. cond b (Some (length fits)) (state_place places flow)) (key-apart fit.flow flow (keys-apart fit.flow flow small also (λ same. away (sym same))))

    stranger : (place : ℕ) (other : FlowFit) → slice_get fits place ≡ Some other → other.flow ≢ fit.flow
    stranger place other at own =
        let line : state_place places fit.flow ≡ Some place = ap (state_place places) (sym own) ∙ (is.kept place other at).leads in
        let no : None ≡ Some (is.found fit.flow small place line).fit = sym none ∙ found-fit fit.flow small place line in
        cc

    placed-last : (place : ℕ) (other : FlowFit) → place ≡ length fits → fit ≡ other → IsLedTo new place other.flow
    placed-last place other last is_fit = subst (λ (f : FlowFit). IsLedTo new place f.flow) is_fit (record {
      leads = here ∙ ap (λ (n : ℕ). Some n) (sym last);
      small = small;
    })

    placed-early : (place : ℕ) (other : FlowFit) → slice_get fits place ≡ Some other → IsLedTo new place other.flow
    placed-early place other early =
        let was = is.kept place other early in
        record {
          leads = others other.flow was.small (stranger place other early) ∙ was.leads;
          small = was.small;
        }

    pub KeepsFits-push : KeepsFits new (fits ++ fit ∷ [])
    KeepsFits-push = record {
      found = λ flow also place line. elim (flow_cases flow fit.flow) [
        | inl same ↦
            let last : length fits ≡ place = same_Some (length fits) place (sym here ∙ ap (state_place new) (sym same) ∙ line) in
            record {
              fit = fit;
              there = ap (slice_get (fits ++ fit ∷ [])) (sym last) ∙ slice_get-last fits fit;
              own = sym same;
            }
        | inr away ↦
            let has = is.found flow also place (sym (others flow also away) ∙ line) in
            record {
              fit = has.fit;
              there = slice_get-front fits (fit ∷ []) place has.fit has.there;
              own = has.own;
            }
      ];
      kept = λ place other at. elim (slice_get-pushed fits fit place other at) [
        | inl last ↦ placed-last place other last.0 last.1
        | inr early ↦ placed-early place other early
      ];
    }

  -- A cell of a flow with a state.
  module _ (increment : ℕ) (flow : Flow) (small : IsSmall flow) (place moment number : ℕ) (at : state_place places flow ≡ Some place) where
    pub KeepsFits-taken : (fault : Option FitFault) (new : List FlowFit) → TakesAt fits place increment moment number fault new
        → KeepsFits places new
    KeepsFits-taken None new takes =
        let has = is.found flow small place at in
        subst (KeepsFits places) (sym (takes has.fit has.there).1)
        (KeepsFits-set place has.fit (fit_after increment has.fit moment number) has.there refl)
    KeepsFits-taken (Some fault) new takes = subst (KeepsFits places) (sym takes.0) is

    pub fits_after-taken : (fault : Option FitFault) (new : List FlowFit) → TakesAt fits place increment moment number fault new
        → fits_after increment fits flow moment number ≡ taken_as fault new
    fits_after-taken None new takes =
        let has = is.found flow small place at in
        let after = fit_after increment has.fit moment number in
        let took = takes has.fit has.there in
        ap (λ (found : Option FlowFit). fits_from increment fits found flow moment number) (found-fit flow small place at)
        ∙ ap (λ b. cond b (Ok (with_fit after fits)) (Err TooLarge)) took.0
        ∙ ap (taken_as None) (with_fit-set place has.fit after has.there refl ∙ sym took.1)
    fits_after-taken (Some fault) new takes =
        let has = is.found flow small place at in
        let after = fit_after increment has.fit moment number in
        let took = takes.1 has.fit has.there in
        ap (λ (found : Option FlowFit). fits_from increment fits found flow moment number) (found-fit flow small place at)
        ∙ ap (λ b. cond b (Ok (with_fit after fits)) (Err TooLarge)) took.0
        ∙ ap (λ (f : FitFault). taken_as (Some f) new) (sym took.1)

-- The first cell of a flow.
module _ (increment : ℕ) (fits : List FlowFit) (flow : Flow) (moment number : ℕ) (none : fit_in flow fits ≡ None) where
  abbrev First : FlowFit
  First = fit_after increment (no_cells flow number) moment number

  from-none : fits_after increment fits flow moment number ≡ fits_from increment fits None flow moment number
  from-none = ap (λ (found : Option FlowFit). fits_from increment fits found flow moment number) none

  pub fits_after-full : most_connections ≤ length fits → fits_after increment fits flow moment number ≡ Err TooManyConnections
  fits_after-full full =
      from-none
      ∙ ap (λ b. cond b (Err TooManyConnections) (Ok (with_fit First fits))) (le-leb most_connections (length fits) full)

  pub fits_after-first : length fits < most_connections → (fit : FlowFit) → fit ≡ First
      → (new : List FlowFit) → new ≡ fits ++ fit ∷ [] → fits_after increment fits flow moment number ≡ Ok new
  fits_after-first few fit same new is =
      let grew : new ≡ fits ++ First ∷ [] = is ∙ ap (λ (f : FlowFit). fits ++ f ∷ []) same in
      from-none
      ∙ ap (λ b. cond b (Err TooManyConnections) (Ok (with_fit First fits))) (lt-leb most_connections (length fits) few)
      ∙ ap (taken_as None) (with_fit-new fits First none ∙ sym grew)
