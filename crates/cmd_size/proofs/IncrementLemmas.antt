-- The increment is the greatest that is fast enough.
use Rattle.std.proofs.Common.{◌≡◌, ◌∙◌, ℕ, ◌+◌, ◌*◌, ◌/◌, ◌<◌, ◌≤◌, false, Ok, Err, Result, Option, None, Some, IfSome, ◌==◌, if◌then◌else◌, ap, arith, subst, sym}
use Rattle.std.proofs.lemmas.Bool.Decides.{nat_tests}
use Rattle.std.proofs.Math.Nat.{div-div-eq-div-mul, le-mul_of_pos_right, lt-mul-div-succ, mul-div-le, mul-le-mul_right, mul_assoc, mul_comm}
use Rattle.cmd_size.specs.CellRates.{units_of}
use Rattle.cmd_size.specs.Increments.{IsGreatest, increment_of, one_cell}
use Rattle.cmd_size.specs.Sizing.{Tolerates, increment_in}
use Rattle.cmd_size.specs.declared.fault.SizeFault.{SizeFault}
use Rattle.cmd_size.specs.declared.fault.SizeFault.TheVariants.{TooFast, ZeroRate}
use Rattle.cmd_size.specs.declared.sizing.SizedRate.{SizedRate}
use Rattle.cmd_size.specs.declared.figures.CellRate.{CellRate}

-- Dividing by the units and then by the tick is dividing by both.
pub divided : (rate : CellRate) (tick : ℕ) → one_cell rate / units_of rate / tick ≡ increment_of rate tick
divided rate tick =
    div-div-eq-div-mul (one_cell rate) (units_of rate) tick ∙ ap (λ n. one_cell rate / n) (mul_comm (units_of rate) tick)

-- A product of three, in another order.
turned : (ticks tick units : ℕ) → tick * units * ticks ≡ ticks * tick * units
turned ticks tick units = mul_comm (tick * units) ticks ∙ sym (mul_assoc ticks tick units)

pub greatest : (rate : CellRate) (tick : ℕ) → 0 < tick → 0 < units_of rate → IsGreatest rate tick (increment_of rate tick)
greatest rate tick some units =
    let each : 0 < tick * units_of rate = omega (arith, some, le-mul_of_pos_right tick units) in
    record {
      fast = subst (λ n. n ≤ one_cell rate) (turned (increment_of rate tick) tick (units_of rate)) (mul-div-le (one_cell rate) (tick * units_of rate));
      slow = subst (λ n. one_cell rate < n) (turned (increment_of rate tick + 1) tick (units_of rate)) (lt-mul-div-succ (one_cell rate) each);
    }

-- A rate above 0 with an increment above 0 has no fault.
found-by : (units ticks : ℕ) → 0 < units → 0 < ticks
    → ◌≡◌ {A = Result ℕ SizeFault} (if units == 0 then Err ZeroRate else if ticks == 0 then Err TooFast else Ok ticks) (Ok ticks)
found-by units ticks some more =
    let unit : (units == 0) ≡ false = grind (arith, nat_tests) in
    let tick : (ticks == 0) ≡ false = grind (arith, nat_tests) in
    ap (λ b. if b then Err ZeroRate else if ticks == 0 then Err TooFast else Ok ticks) unit
    ∙ ap (λ b. if b then Err TooFast else Ok ticks) tick

pub increment-found : (rate : CellRate) (tick : ℕ) → 0 < units_of rate → 0 < increment_of rate tick
    → increment_in rate tick ≡ Ok (increment_of rate tick)
increment-found rate tick units some = found-by (units_of rate) (increment_of rate tick) units some

-- A limit of at least the tolerance tolerates what that does.
pub tolerated : (found : Option SizedRate) (tolerance time tick : ℕ) → time ≤ tolerance * tick
    → IfSome found (λ rate. tolerance ≤ rate.limit) → IfSome found (Tolerates time tick)
tolerated None tolerance time tick enough below = tt
tolerated (Some rate) tolerance time tick enough below = omega (arith, enough, mul-le-mul_right tick below)
