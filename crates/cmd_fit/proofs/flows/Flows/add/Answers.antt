-- The place of the new state is put under the flow's key.
use Rattle.std.proofs.Common.{◌≡◌, ◌-◌, ℕ, List, [], ◌∷◌, cond, Some, None, length, take, sym, ap, ◌∙◌, subst, arith, vec_len}
use Rattle.std.specs.BTreeMap.{is_at}
use Rattle.std.specs.Map.{lookup}
use Rattle.std.specs.Ordering.{nat_cmp}
use Rattle.std.proofs.lemmas.Grind.{common_steps}
use Rattle.std.proofs.lemmas.List.{take_at}
use Rattle.cmd_fit.specs.Fits.{fit_in}
use Rattle.cmd_fit.specs.FitText.{flow_key}
use Rattle.cmd_fit.specs.declared.flow_fit.FlowFit.{FlowFit}
use Rattle.cmd_fit.specs.inner.FlowPlaces.{KeepsFits, state_place}
use Rattle.cmd_fit.proofs.PlaceLemmas.{KeepsFits-push}
use Rattle.cmd_fit.proofs.flows.Flows.add.Goals as goal

pub invariant_of-self-in-Ok : goal.invariant_of-self-in-Ok
invariant_of-self-in-Ok c =
    let s = c.self.inside in
    let fit = c.args.fit in
    let new = c.insert.new.self.entries in
    let none : fit_in fit.flow s.fits.items ≡ None =
    subst (λ (fits : List FlowFit). fit_in fit.flow fits ≡ None) (sym c.self.view_is) c.requires in
    let last : c.len-place.result ≡ length s.fits.items = grind (arith, common_steps) in
    let put : (q : ℕ) → lookup (is_at (nat_cmp q)) new
    ≡ cond (is_at (nat_cmp c.key_of.result) q) (Some c.len-place.result) (lookup (is_at (nat_cmp q)) s.places.entries) = c.in-Ok.ensures.updates.0 in
    subst (KeepsFits new) (sym c.in_ok-push.ensures.items)
    (KeepsFits-push s.places.entries s.fits.items c.self.invariant new fit none c.key_of.ensures.small (λ flow.
    put (flow_key flow)
    ∙ ap (λ (k : ℕ). cond (is_at (nat_cmp k) (flow_key flow)) (Some c.len-place.result) (state_place s.places.entries flow)) c.key_of.ensures.key
    ∙ ap (λ (n : ℕ). cond (is_at (nat_cmp (flow_key fit.flow)) (flow_key flow)) (Some n) (state_place s.places.entries flow)) last))

pub invariant_of-self-in-Err : goal.invariant_of-self-in-Err
invariant_of-self-in-Err c =
    let s = c.self.inside in
    let count : length s.fits.items ≡ vec_len c.push.new.self - 1 = grind (arith, common_steps) in
    let back : c.pop.new.self.items ≡ s.fits.items =
    c.pop.ensures.rest ∙ ap (take (vec_len c.push.new.self - 1)) c.in_ok-push.ensures.items
    ∙ take_at s.fits.items (c.args.fit ∷ []) (vec_len c.push.new.self - 1) count in
    subst (KeepsFits c.insert.new.self.entries) (sym back)
    (subst (λ (places : List (ℕ × ℕ)). KeepsFits places s.fits.items) (sym c.in-Err.ensures.err) c.self.invariant)
