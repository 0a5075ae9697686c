-- The place of the flow decides what a cell does.
use Rattle.std.proofs.Common.{◌≡◌, List, None, sym, subst}
use Rattle.cmd_fit.specs.Fits.{fit_in, fits_after}
use Rattle.cmd_fit.specs.declared.flow_fit.FlowFit.{FlowFit}
use Rattle.cmd_fit.specs.inner.FlowPlaces.{taken_as}
use Rattle.cmd_fit.proofs.PlaceLemmas.{KeepsFits-taken, absent-fit, fits_after-taken, found-within}
use Rattle.cmd_fit.proofs.flows.Flows.take.Goals as goal

pub take_at-requires : goal.take_at-requires
take_at-requires c =
    found-within c.self.inside.places.entries c.self.inside.fits.items c.self.invariant c.args.flow c.place_in.ensures.small c.in-Some.place
    (sym c.in-Some.ensures.place)

pub invariant_of-self : goal.invariant_of-self
invariant_of-self c =
    let a = c.args in
    KeepsFits-taken c.self.inside.places.entries c.self.inside.fits.items c.self.invariant a.increment a.flow c.place_in.ensures.small c.in-Some.place
    a.moment a.number (sym c.in-Some.ensures.place) c.take_at.result c.take_at.new.fits.items c.take_at.ensures

pub begin-requires : goal.begin-requires
begin-requires c =
    subst (λ (fits : List FlowFit). fit_in c.args.flow fits ≡ None) c.self.view_is
    (absent-fit c.self.inside.places.entries c.self.inside.fits.items c.self.invariant c.args.flow (sym c.in-None.ensures.place))

pub returns-in-Some : goal.returns-in-Some
returns-in-Some c =
    let a = c.args in
    subst (λ (fits : List FlowFit). fits_after a.increment fits a.flow a.moment a.number ≡ taken_as c.take_at.result c.take_at.new.fits.items)
    c.self.view_is
    (fits_after-taken c.self.inside.places.entries c.self.inside.fits.items c.self.invariant a.increment a.flow c.place_in.ensures.small c.in-Some.place
    a.moment a.number (sym c.in-Some.ensures.place) c.take_at.result c.take_at.new.fits.items c.take_at.ensures)
