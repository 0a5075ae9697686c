-- What buckets have, by the definition.
use Rattle.std.proofs.Common.{◌≡◌, ℕ, ◌+◌, ◌*◌, ◌^◌, ◌<◌, ◌≤◌, ◌==◌, nat_lt, if◌then◌else◌, Bool, true, false, Result, Ok, Err, refl, arith}
use Rattle.std.proofs.Math.Nat.{div-le_self}
use Rattle.std.proofs.lemmas.Bool.Decides.{nat_tests}
use Rattle.leaky.specs.Tolerance.{tolerance_of}
use Rattle.cmd_size.specs.CellRates.{units_of}
use Rattle.cmd_size.specs.Increments.{increment_of, one_cell}
use Rattle.cmd_size.specs.Sizing.{followed, increment_in, limit_within, sustained_limit}
use Rattle.cmd_size.specs.declared.fault.SizeFault.{SizeFault}
use Rattle.cmd_size.specs.declared.fault.SizeFault.TheVariants.{ZeroRate, TooFast, ZeroMbs, PeakSlower, TooLarge}
use Rattle.cmd_size.specs.declared.figures.CellRate.{CellRate}
use Rattle.cmd_size.specs.declared.figures.CellRate.TheVariants.{Cells, Bits}

pub followed-ok : {A B : Type 0} (first : Result A SizeFault) (next : A → Result B SizeFault) (value : B)
    → followed first next ≡ Ok value → (found : A) × (first ≡ Ok found) × (next found ≡ Ok value)
followed-ok (Ok found) next value is = (found, refl, is)
followed-ok (Err fault) next value is = absurd cc

-- A test that ends in a fault didn't.
past-test : {A : Type 0} (test : Bool) (fault : SizeFault) (other : Result A SizeFault) (value : A)
    → ◌≡◌ {A = Result A SizeFault} (if test then Err fault else other) (Ok value) → (test ≡ false) × (other ≡ Ok value)
past-test true fault other value is = absurd cc
past-test false fault other value is = (refl, is)

-- A test whose other side is a fault was passed.
pub otherwise-fault : {A : Type 0} (test : Bool) (fault : SizeFault) (first : Result A SizeFault) (value : A)
    → ◌≡◌ {A = Result A SizeFault} (if test then first else Err fault) (Ok value) → first ≡ Ok value
otherwise-fault true fault first value is = is
otherwise-fault false fault first value is = absurd cc

cell-bounded : (rate : CellRate) → one_cell rate ≤ 424000000000
cell-bounded (Cells count) = omega arith
cell-bounded (Bits count) = omega arith

pub increment-bounded : (rate : CellRate) (tick ticks : ℕ) → increment_in rate tick ≡ Ok ticks → (0 < ticks) × (ticks ≤ 2 ^ 48)
increment-bounded rate tick ticks is =
    let some = past-test (units_of rate == 0) ZeroRate _ ticks is in
    let more = past-test (increment_of rate tick == 0) TooFast _ ticks some.1 in
    let same : increment_of rate tick ≡ ticks = let e = more.1 in cc in
    let above : 0 < increment_of rate tick = grind (arith, nat_tests) in
    let most : increment_of rate tick ≤ one_cell rate = div-le_self (one_cell rate) (tick * units_of rate) in
    (omega (arith, same, above), omega (arith, same, most, cell-bounded rate))

pub limit-bounded : (limit found : ℕ) → limit_within limit ≡ Ok found → (found ≡ limit) × (limit ≤ 2 ^ 48)
limit-bounded limit found is =
    let within = past-test (nat_lt (2 ^ 48) limit) TooLarge (Ok limit) found is in
    let same : found ≡ limit = let e = within.1 in cc in
    (same, grind (arith, nat_tests))

pub sustained-bounded : (mbs increment peak tolerance found : ℕ) → sustained_limit mbs increment peak tolerance ≡ Ok found
    → (found ≤ 2 ^ 48) × (tolerance ≤ found)
sustained-bounded mbs increment peak tolerance found is =
    let some = past-test (mbs == 0) ZeroMbs _ found is in
    let slower = past-test (nat_lt increment peak) PeakSlower _ found some.1 in
    let within = limit-bounded (tolerance_of mbs increment peak + tolerance) found slower.1 in
    (omega (arith, within.0, within.1), omega (arith, within.0))
