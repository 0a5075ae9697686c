-- Stamps that are rounded down lose no tick, if the nearest tick is taken.
use Rattle.std.proofs.Common.{◌≡◌, ℕ, ◌+◌, ◌-◌, ◌*◌, ◌%◌, ◌^◌, ◌<◌, ◌≤◌, arith}
use Rattle.std.proofs.Math.Nat.{div-eq_of_lt-le, mod-lt, mul_left_comm}
use Rattle.std.proofs.lemmas.Nat.{div-add-mod'}
use Rattle.captures.specs.Moments.{StampsLoseNoTick, stamp_at}

-- The stamps of two moments `apart` nanoseconds apart, each with the rest that was dropped.
module _ (first apart tick early late early_rest late_rest : ℕ)
    (early_is : early * 1000000000 + early_rest ≡ first * 4294967296) (early_less : early_rest < 1000000000)
    (late_is : late * 1000000000 + late_rest ≡ (first + apart) * 4294967296) (late_less : late_rest < 1000000000)
    (some : 0 < tick) where
  not_below : apart * 4294967296 ≤ (late - early) * 1000000000 + 2147483648 * tick
  not_below = omega (arith, early_is, early_less, late_is, late_less, some)

  not_above : (late - early) * 1000000000 + 2147483648 * tick < apart * 4294967296 + 4294967296 * tick
  not_above = omega (arith, early_is, early_less, late_is, late_less, some)

pub stamps_lose_no_tick : StampsLoseNoTick
stamps_lose_no_tick first ticks nanoseconds some =
    let apart = ticks * nanoseconds in
    let early = stamp_at first in
    let late = stamp_at (first + apart) in
    let million : 0 < 1000000000 = omega arith in
    let early_less = mod-lt (first * 2 ^ 32) million in
    let late_less = mod-lt ((first + apart) * 2 ^ 32) million in
    let early_is = div-add-mod' (first * 2 ^ 32) 1000000000 in
    let late_is = div-add-mod' ((first + apart) * 2 ^ 32) 1000000000 in
    let early_rest = first * 2 ^ 32 % 1000000000 in
    let late_rest = (first + apart) * 2 ^ 32 % 1000000000 in
    let low = not_below first apart nanoseconds early late early_rest late_rest early_is early_less late_is late_less some in
    let high = not_above first apart nanoseconds early late early_rest late_rest early_is early_less late_is late_less some in
    let moved : ticks * (2 ^ 32 * nanoseconds) ≡ 2 ^ 32 * apart = mul_left_comm ticks (2 ^ 32) nanoseconds in
    let middle = (late - early) * 1000000000 + 2 ^ 31 * nanoseconds in
    let from : ticks * (2 ^ 32 * nanoseconds) ≤ middle = omega (arith, low, moved) in
    let to : middle < (ticks + 1) * (2 ^ 32 * nanoseconds) = omega (arith, high, moved) in
    div-eq_of_lt-le (2 ^ 32 * nanoseconds) from to
