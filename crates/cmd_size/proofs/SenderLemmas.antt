-- A sender on time: what is ahead of each cell in the bucket is at most what the tolerance allows.
use Rattle.std.proofs.Common.{◌≡◌, ℕ, ◌+◌, ◌-◌, ◌*◌, ◌/◌, ◌<◌, ◌≤◌, ◌⊎◌, inl, inr, List, [], ◌∷◌, length, map, refl, arith, subst, sym}
use Rattle.std.proofs.Math.Nat.{div-mul-le_self, le_trans, lt-div-mul-add, lt_of_mul-lt-mul_right, mul-le-mul_left, mul-le-mul_right, mul-lt-mul_of_pos_left}
use Rattle.std.proofs.lemmas.Bool.{cases_lt, le-leb}
use Rattle.std.proofs.lemmas.Nat.{le-div}
use Rattle.leaky.specs.Bucket.{Bucket, filled, level_at, opening}
use Rattle.leaky.specs.Bursts.{AllFill}
use Rattle.leaky.specs.Moments.{GoesOn}
use Rattle.leaky.specs.Tolerance.{tolerance_of}
use Rattle.leaky.specs.declared.gcra.Gcra.{Gcra}
use Rattle.cmd_size.specs.CellRates.{units_of}
use Rattle.cmd_size.specs.Increments.{IsFastEnough, one_cell}
use Rattle.cmd_size.specs.Senders.{AdmitsBursts, AdmitsOnTime, AreOnTime, BurstsOnTimeLoseNothing, SendersOnTimeLoseNothing}
use Rattle.cmd_size.specs.declared.figures.CellRate.{CellRate}
use Rattle.cmd_size.specs.declared.figures.Figures.{Figures}
use Rattle.cmd_size.specs.declared.sizing.SizedRate.{SizedRate}

-- The cell comes no earlier than the bucket allows. `ahead` is the theoretical arrival time, in ticks. It is later than on time by
-- `over` ticks, where earlier cells of a burst were sent faster than the rate of the bucket.
early-enough : (units tick start cdvt number cell over ahead moment limit time : ℕ) → 0 < units → 0 < tick
    → ahead * (tick * units) ≤ units * (start + cdvt) + number * cell + over * (tick * units)
    → units * start + number * cell ≤ units * time
    → cdvt + over * tick ≤ limit * tick → time < moment * tick + tick → ahead ≤ moment + limit
early-enough units tick start cdvt number cell over ahead moment limit time some each most due enough whole =
    let a : units * (cdvt + over * tick) ≤ units * (limit * tick) = mul-le-mul_left units enough in
    let b : units * time < units * (moment * tick + tick) = mul-lt-mul_of_pos_left whole some in
    let c : ahead * (tick * units) < (moment + limit + 1) * (tick * units) = omega (arith, a, b, most, due) in
    let below : ahead < moment + limit + 1 = lt_of_mul-lt-mul_right (tick * units) c in
    omega (arith, below)

-- The next theoretical arrival time is later by at most `cell`.
next-ahead : (step cell bound level charged moment ticks : ℕ) → charged ≤ moment → (level + charged) * step ≤ bound → moment * step ≤ bound
    → ticks * step ≤ cell → (level - (moment - charged) + ticks + moment) * step ≤ bound + cell
next-ahead step cell bound level charged moment ticks later most here fast =
    elim (cases_lt level (moment - charged)) [
      | inl below ↦
          let is : ticks + moment ≡ level - (moment - charged) + ticks + moment = omega (arith, below, later) in
          subst (λ n. n * step ≤ bound + cell) is (omega (arith, here, fast))
      | inr above ↦
          let is : level + charged + ticks ≡ level - (moment - charged) + ticks + moment = omega (arith, above, later) in
          subst (λ n. n * step ≤ bound + cell) is (omega (arith, most, fast))
    ]

-- A burst goes on. Each cell of it adds `excess` ticks more than the peak rate drains.
all-fill : (rate : CellRate) (tick cdvt peak excess : ℕ) (gcra : Gcra) (start last : ℕ) → 0 < tick → 0 < units_of rate
    → IsFastEnough rate tick peak → gcra.increment ≡ peak + excess → cdvt + last * excess * tick ≤ gcra.limit * tick
    → (times : List ℕ) (number earliest : ℕ) (bucket : Bucket) → bucket.charged ≤ earliest / tick
    → (bucket.level + bucket.charged) * (tick * units_of rate) ≤ units_of rate * (start + cdvt) + number * one_cell rate + number * excess * (tick * units_of rate)
    → (number + length times ≤ last + 1) ⊎ (excess ≡ 0)
    → GoesOn earliest times → AreOnTime rate cdvt start number times
    → AllFill gcra bucket (map (λ time. time / tick) times)
all-fill rate tick cdvt peak excess gcra start last each some fast is enough [] number earliest bucket charged most few goes on = tt
all-fill rate tick cdvt peak excess gcra start last each some fast is enough (time ∷ times) number earliest bucket charged most few goes on =
    let units = units_of rate in
    let moment = time / tick in
    let later : bucket.charged ≤ moment = le_trans charged (le-div (earliest / tick) time tick each (le_trans (div-mul-le_self earliest tick) goes.0)) in
    let whole : time < moment * tick + tick = lt-div-mul-add each in
    let over : number * excess ≤ last * excess = elim few [
      | inl within ↦ mul-le-mul_right excess (omega (arith, within))
      | inr none ↦ rw none (omega arith)
    ] in
    let allowed : cdvt + number * excess * tick ≤ gcra.limit * tick = omega (arith, enough, mul-le-mul_right tick over) in
    let ahead : bucket.level + bucket.charged ≤ moment + gcra.limit =
    early-enough units tick start cdvt number (one_cell rate) (number * excess) (bucket.level + bucket.charged) moment gcra.limit time
    some each most on.0.due allowed whole in
    let low : level_at bucket moment ≤ gcra.limit = omega (arith, ahead, later) in
    let back : units * (moment * tick) ≤ units * time = mul-le-mul_left units (div-mul-le_self time tick) in
    let here : moment * (tick * units) ≤ units * (start + cdvt) + number * one_cell rate + number * excess * (tick * units) = omega (arith, back, on.0.late) in
    let step : gcra.increment * (tick * units) ≤ one_cell rate + excess * (tick * units) =
    subst (λ n. n * (tick * units) ≤ one_cell rate + excess * (tick * units)) (sym is) (omega (arith, fast)) in
    let next = next-ahead (tick * units) (one_cell rate + excess * (tick * units))
    (units * (start + cdvt) + number * one_cell rate + number * excess * (tick * units))
    bucket.level bucket.charged moment gcra.increment later most here step in
    let fewer : (number + 1 + length times ≤ last + 1) ⊎ (excess ≡ 0) = elim few [
      | inl within ↦ inl (omega (arith, within))
      | inr none ↦ inr none
    ] in (
      le-leb (level_at bucket moment) gcra.limit low,
      all-fill rate tick cdvt peak excess gcra start last each some fast is enough times (number + 1) time (filled gcra bucket moment)
          (omega arith) (omega (arith, next)) fewer goes.1 on.1,
    )

pub lose-nothing : SendersOnTimeLoseNothing
lose-nothing rate tick cdvt gcra start times each some fast enough goes on =
    all-fill rate tick cdvt gcra.increment 0 gcra start 0 each some fast (omega arith) (omega (arith, enough)) times 0 0 opening
    (omega arith) (omega arith) (inr refl) goes on

pub bursts-lose_nothing : BurstsOnTimeLoseNothing
bursts-lose_nothing rate tick cdvt tolerance peak mbs gcra start times each some fast slower enough limit few goes on =
    let excess = gcra.increment - peak in
    let is : gcra.increment ≡ peak + excess = omega (arith, slower) in
    let whole : ((mbs - 1) * excess + tolerance) * tick ≤ gcra.limit * tick = mul-le-mul_right tick limit in
    all-fill rate tick cdvt peak excess gcra start (mbs - 1) each some fast is (omega (arith, whole, enough)) times 0 0 opening
    (omega arith) (omega arith) (inl (omega (arith, few))) goes on

-- The same of a bucket that was sized.
pub admits-on_time : (figures : Figures) (rate : CellRate) (sized : SizedRate) → 0 < figures.tick → 0 < units_of rate
    → IsFastEnough rate figures.tick sized.increment → figures.cdvt ≤ sized.limit * figures.tick → AdmitsOnTime figures rate sized
admits-on_time figures rate sized each some fast enough gcra start times is goes on =
    lose-nothing rate figures.tick figures.cdvt gcra start times each some
    (subst (λ n. IsFastEnough rate figures.tick n) (sym is.0) fast) (subst (λ n. figures.cdvt ≤ n * figures.tick) (sym is.1) enough) goes on

pub admits-bursts : (figures : Figures) (peak tolerance mbs : ℕ) (sized : SizedRate) → 0 < figures.tick → 0 < units_of figures.pcr
    → IsFastEnough figures.pcr figures.tick peak → peak ≤ sized.increment → figures.cdvt ≤ tolerance * figures.tick
    → tolerance_of mbs sized.increment peak + tolerance ≤ sized.limit → AdmitsBursts figures mbs sized
admits-bursts figures peak tolerance mbs sized each some fast slower enough limit gcra start times is few goes on =
    let wide : tolerance_of mbs gcra.increment peak + tolerance ≤ gcra.limit =
    subst (λ n. tolerance_of mbs n peak + tolerance ≤ gcra.limit) (sym is.0)
    (subst (λ n. tolerance_of mbs sized.increment peak + tolerance ≤ n) (sym is.1) limit) in
    bursts-lose_nothing figures.pcr figures.tick figures.cdvt tolerance peak mbs gcra start times each some fast
    (subst (λ n. peak ≤ n) (sym is.0) slower) enough wide few goes on
