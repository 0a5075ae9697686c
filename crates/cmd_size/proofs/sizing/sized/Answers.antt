-- The limits have the tolerance in them, so the buckets admit senders on time.
use Rattle.std.proofs.Common.{◌<◌, ◌*◌, ◌≤◌, arith, subst, sym}
use Rattle.std.proofs.lemmas.Grind.{div_ceil_times}
use Rattle.std.proofs.lemmas.Result.{IfOk-weaker}
use Rattle.cmd_size.specs.Increments.{IsFastEnough}
use Rattle.cmd_size.specs.Senders.{AdmitsOnTime}
use Rattle.cmd_size.specs.Sizing.{sized_rate}
use Rattle.cmd_size.specs.declared.sizing.SizedRate.{SizedRate}
use Rattle.cmd_size.proofs.IncrementLemmas.{tolerated}
use Rattle.cmd_size.proofs.SenderLemmas.{admits-on_time}
use Rattle.cmd_size.proofs.sizing.sized.Goals as goal

pub returns-in-Some-clause-sustained_limit : goal.returns-in-Some-clause-sustained_limit
returns-in-Some-clause-sustained_limit c =
    let figures = c.args.figures in
    let times = div_ceil_times figures.cdvt figures.tick (omega arith) in
    let enough : figures.cdvt ≤ c.div_ceil-tolerance.result * figures.tick = rw c.div_ceil-tolerance.ensures times.0 in
    IfOk-weaker c.both.result _ _ (λ sizes. tolerated sizes.sustained c.div_ceil-tolerance.result figures.cdvt figures.tick enough) c.both.ensures.limit

pub returns-in-Some-clause-peak_admits : goal.returns-in-Some-clause-peak_admits
returns-in-Some-clause-peak_admits c =
    let figures = c.args.figures in
    let each : 0 < figures.tick = omega arith in
    let times = div_ceil_times figures.cdvt figures.tick each in
    let enough : figures.cdvt ≤ c.div_ceil-tolerance.result * figures.tick = rw c.div_ceil-tolerance.ensures times.0 in
    IfOk-weaker c.both.result _ _ (λ sizes same.
    admits-on_time figures figures.pcr sizes.peak each c.in_ok-peak.ensures.units
    (subst (λ n. IsFastEnough figures.pcr figures.tick n) (sym same.0) c.in_ok-peak.ensures.greatest.fast)
    (subst (λ n. figures.cdvt ≤ n * figures.tick) (sym same.1) enough)) c.both.ensures.peak

pub returns-in_ok-within-in-None-clause-peak_admits : goal.returns-in_ok-within-in-None-clause-peak_admits
returns-in_ok-within-in-None-clause-peak_admits c =
    let figures = c.args.figures in
    let each : 0 < figures.tick = omega arith in
    let times = div_ceil_times figures.cdvt figures.tick each in
    let limit = c.in_ok-within-in-None.field-0 in
    let enough : figures.cdvt ≤ c.div_ceil-tolerance.result * figures.tick = rw c.div_ceil-tolerance.ensures times.0 in
    let Admits : SizedRate → Type 0 = λ sized. AdmitsOnTime figures figures.pcr sized in
    subst Admits (sym c.bucket.ensures)
    (admits-on_time figures figures.pcr (sized_rate figures.pcr figures.tick c.in_ok-peak.peak limit) each c.in_ok-peak.ensures.units
    c.in_ok-peak.ensures.greatest.fast (subst (λ n. figures.cdvt ≤ n * figures.tick) (sym c.in_ok-within-in-None.ensures.same) enough))
