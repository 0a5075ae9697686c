-- The bucket of the sustained rate admits senders on time and their bursts.
use Rattle.std.proofs.Common.{◌≤◌, ◌*◌, ◌+◌, arith, subst, sym}
use Rattle.std.proofs.Math.Nat.{le_trans, mul-le-mul_right}
use Rattle.leaky.specs.Tolerance.{tolerance_of}
use Rattle.cmd_size.specs.Senders.{AdmitsBursts, AdmitsOnTime}
use Rattle.cmd_size.specs.Sizing.{sized_rate}
use Rattle.cmd_size.specs.declared.sizing.SizedRate.{SizedRate}
use Rattle.cmd_size.proofs.SenderLemmas.{admits-bursts, admits-on_time}
use Rattle.cmd_size.proofs.sizing.both.Goals as goal

pub returns-clause-admits : goal.returns-clause-admits
returns-clause-admits c =
    let figures = c.args.figures in
    let asked = c.args.asked in
    let increment = c.in_ok-increment.increment in
    let limit = c.in_ok-limit.limit in
    let made = sized_rate asked.scr figures.tick increment limit in
    let wide : tolerance_of asked.mbs increment c.args.peak + c.args.tolerance ≤ limit = omega (arith, c.in_ok-limit.ensures.limit) in
    let more : c.args.tolerance ≤ limit = omega (arith, wide) in
    let enough : figures.cdvt ≤ limit * figures.tick = le_trans c.requires.tolerance (mul-le-mul_right figures.tick more) in
    let Both : SizedRate → Type 0 = λ sized. AdmitsOnTime figures asked.scr sized × AdmitsBursts figures asked.mbs sized in
    subst Both (sym c.bucket-2.ensures) (
      admits-on_time figures asked.scr made c.requires.tick c.in_ok-increment.ensures.units c.in_ok-increment.ensures.greatest.fast enough,
      admits-bursts figures c.args.peak c.args.tolerance asked.mbs made c.requires.tick c.requires.units c.requires.fast
          c.in_ok-limit.ensures.slower c.requires.tolerance wide,
    )
