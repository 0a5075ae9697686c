-- The quotient is the increment, and the greatest.
use Rattle.std.proofs.Common.{◌≡◌, ◌∙◌, ◌<◌, ◌/◌, Ok, ap, arith, subst, sym}
use Rattle.cmd_size.specs.CellRates.{units_of}
use Rattle.cmd_size.specs.Increments.{IsGreatest, increment_of, one_cell}
use Rattle.cmd_size.proofs.IncrementLemmas.{divided, greatest, increment-found}
use Rattle.cmd_size.proofs.sizing.increment.Goals as goal

pub returns-in_default-clause-value : goal.returns-in_default-clause-value
returns-in_default-clause-value c =
    let rate = c.args.rate in
    let is : c.cell.result / c.units-units.result / c.args.tick ≡ increment_of rate c.args.tick =
    ap (λ n. n / c.units-units.result / c.args.tick) c.cell.ensures.cell ∙ ap (λ n. one_cell rate / n / c.args.tick) c.units-units.ensures
    ∙ divided rate c.args.tick in
    let units : 0 < units_of rate = omega (arith, c.units-units.ensures, c.if-units-eq0.false) in
    let some : 0 < increment_of rate c.args.tick = omega (arith, is, c.in_default) in
    ap (λ n. Ok n) is ∙ sym (increment-found rate c.args.tick units some)

pub returns-in_default-clause-greatest : goal.returns-in_default-clause-greatest
returns-in_default-clause-greatest c =
    let rate = c.args.rate in
    let is : c.cell.result / c.units-units.result / c.args.tick ≡ increment_of rate c.args.tick =
    ap (λ n. n / c.units-units.result / c.args.tick) c.cell.ensures.cell ∙ ap (λ n. one_cell rate / n / c.args.tick) c.units-units.ensures
    ∙ divided rate c.args.tick in
    let units : 0 < units_of rate = omega (arith, c.units-units.ensures, c.if-units-eq0.false) in
    subst (λ n. IsGreatest rate c.args.tick n) (sym is) (greatest rate c.args.tick c.requires units)
