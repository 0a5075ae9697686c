-- Virtual scheduling and the leaky bucket agree cell by cell.
use Rattle.std.proofs.Common.{◌≡◌, ℕ, ◌+◌, ◌≤◌, List, [], ◌∷◌, refl, ap, arith}
use Rattle.std.proofs.lemmas.Bool.Decides.{nat_tests}
use Rattle.leaky.specs.declared.gcra.Gcra.{Gcra}
use Rattle.leaky.specs.Moments.{GoesOn}
use Rattle.leaky.specs.Bucket.{Bucket, conforms, bucket_after}
use Rattle.leaky.specs.Scheduling.{is_due, due_after}
use Rattle.leaky.specs.Laws.{SchedulingGivesTheBucketsVerdicts}

-- Moments that start at or after a moment also start at or after any earlier one.
pub GoesOn-earlier : (earlier earliest : ℕ) (moments : List ℕ) → earlier ≤ earliest
    → GoesOn earliest moments → GoesOn earlier moments
GoesOn-earlier earlier earliest [] h goes = tt
GoesOn-earlier earlier earliest (moment ∷ moments) h goes = (omega (arith, goes.0), goes.1)

-- Both give the same verdict on one cell.
pub is_due-conforms : (gcra : Gcra) (bucket : Bucket) (moment : ℕ) → bucket.charged ≤ moment
    → is_due gcra (bucket.level + bucket.charged) moment ≡ conforms gcra bucket moment
is_due-conforms gcra bucket moment h = grind (arith, nat_tests)

-- And agree on the state after it.
pub due_after-agrees : (gcra : Gcra) (bucket : Bucket) (moment : ℕ) → bucket.charged ≤ moment
    → due_after gcra (bucket.level + bucket.charged) moment
    ≡ (bucket_after gcra bucket moment).level + (bucket_after gcra bucket moment).charged
due_after-agrees gcra bucket moment h = grind (arith, nat_tests)

-- A cell charges the bucket at its own moment or not at all.
pub bucket_after-charged_by : (gcra : Gcra) (bucket : Bucket) (moment : ℕ) → bucket.charged ≤ moment
    → (bucket_after gcra bucket moment).charged ≤ moment
bucket_after-charged_by gcra bucket moment h = grind (arith, nat_tests)

-- So both forms agree on every list of moments.
pub scheduled-conformances : SchedulingGivesTheBucketsVerdicts
scheduled-conformances gcra bucket [] goes = refl
scheduled-conformances gcra bucket (moment ∷ moments) goes =
    let after = bucket_after gcra bucket moment in
    let charged = bucket_after-charged_by gcra bucket moment goes.0 in
    let on = GoesOn-earlier after.charged moment moments charged goes.1 in
    let rest = scheduled-conformances gcra after moments on in
    rw (is_due-conforms gcra bucket moment goes.0, due_after-agrees gcra bucket moment goes.0)
    (ap (λ later. conforms gcra bucket moment ∷ later) rest)
