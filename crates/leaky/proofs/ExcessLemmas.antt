-- By how much a cell comes too early.
use Rattle.std.proofs.Common.{◌≡◌, ◌≢◌, ◌↔◌, ℕ, ◌≤◌, Bool, true, false, cond, Option, Some, None, refl, subst, arith}
use Rattle.std.proofs.lemmas.Bool.Decides.{nat_tests}
use Rattle.std.proofs.lemmas.Option.{same_Some}
use Rattle.leaky.specs.declared.gcra.Gcra.{Gcra}
use Rattle.leaky.specs.declared.contract.Contract.{Contract}
use Rattle.leaky.specs.declared.contract.Contract.TheVariants.{Cbr1, Vbr1, Vbr2, Vbr3}
use Rattle.leaky.specs.declared.verdict.Verdict.{Verdict}
use Rattle.leaky.specs.declared.verdict.Verdict.TheVariants.{Pass, Discard}
use Rattle.leaky.specs.declared.excess.Excess.{Excess}
use Rattle.leaky.specs.declared.excess.WhichBucket.TheVariants.{Peak, Sustained}
use Rattle.leaky.specs.Bucket.{Bucket, conforms}
use Rattle.leaky.specs.Contract.{Buckets, peak_of, sustained_of, verdict_over_second, conforms_if_met}
use Rattle.leaky.specs.Excess.{over_limit, over_limit_if_met, rate_met, bucket_among, IsLeastDelay}
use Rattle.leaky.specs.Laws.{PassedCellsHaveNoExcess, ExcessesAreLeastDelays}

-- A bucket drains by one unit a tick, so it is at its limit after as many ticks as it is over it.
least-delay : (gcra : Gcra) (bucket : Bucket) (moment : ℕ) → bucket.charged ≤ moment
    → conforms gcra bucket moment ≡ false → IsLeastDelay gcra bucket moment (over_limit gcra bucket moment)
least-delay gcra bucket moment h misses = record {
  some = grind (arith, nat_tests);
  enough = grind (arith, nat_tests);
  least = λ fewer below. grind (arith, nat_tests);
}

-- No verdict on an excess is a pass.
excess-no-pass : (contract : Contract) → verdict_over_second contract ≢ Pass
excess-no-pass (Cbr1 peak) e = absurd (cc)
excess-no-pass (Vbr1 peak sustained) e = absurd (cc)
excess-no-pass (Vbr2 peak sustained) e = absurd (cc)
excess-no-pass (Vbr3 peak sustained) e = absurd (cc)

-- Of both tests: the excess and the verdict.
passed-none : (b c : Bool) (one other : Excess) (excess : Verdict) → excess ≢ Pass
    → (cond b (cond c (let none : Option Excess = None in none) (Some other)) (Some one) ≡ None) ↔ (cond b (cond c Pass excess) Discard ≡ Pass)
passed-none true true one other excess misses = (λ e. refl, λ e. refl)
passed-none true false one other excess misses = (λ e. absurd (cc), λ e. absurd (misses e))
passed-none false c one other excess misses = (λ e. absurd (cc), λ e. absurd (cc))

pub passed-no-excess : PassedCellsHaveNoExcess
passed-no-excess contract buckets clp moment =
    passed-none (conforms (peak_of contract) buckets.first moment)
    (conforms_if_met (sustained_of contract clp) buckets.second moment)
    (record { bucket = Peak; ticks = over_limit (peak_of contract) buckets.first moment })
    (record { bucket = Sustained; ticks = over_limit_if_met (sustained_of contract clp) buckets.second moment })
    (verdict_over_second contract) (excess-no-pass contract)

-- The bucket that an excess names, with its rate, and the delay.
abbrev IsDelay : Contract → Buckets → Bool → ℕ → Excess → Type 0
IsDelay contract buckets clp moment excess = (gcra : Gcra) × (rate_met contract clp excess.bucket ≡ Some gcra)
    × IsLeastDelay gcra (bucket_among buckets excess.bucket) moment excess.ticks

-- Bucket 2, if the cell meets it and doesn't conform to it.
second-delay : (contract : Contract) (buckets : Buckets) (clp : Bool) (moment : ℕ) → buckets.second.charged ≤ moment
    → (met : Option Gcra) → sustained_of contract clp ≡ met → conforms_if_met met buckets.second moment ≡ false
    → IsDelay contract buckets clp moment (record { bucket = Sustained; ticks = over_limit_if_met met buckets.second moment })
second-delay contract buckets clp moment h None is misses = absurd (cc)
second-delay contract buckets clp moment h (Some gcra) is misses = (gcra, is, least-delay gcra buckets.second moment h misses)

pub excesses-least : ExcessesAreLeastDelays
excesses-least contract buckets clp moment charged excess is =
    let peak = peak_of contract in
    let met = sustained_of contract clp in
    let one : Excess = record { bucket = Peak; ticks = over_limit peak buckets.first moment } in
    let other : Excess = record { bucket = Sustained; ticks = over_limit_if_met met buckets.second moment } in
    let none : Option Excess = None in
    let first : (b : Bool) → conforms peak buckets.first moment ≡ b
    → (c : Bool) → conforms_if_met met buckets.second moment ≡ c
    → cond b (cond c none (Some other)) (Some one) ≡ Some excess → IsDelay contract buckets clp moment excess = elim [
      | true ↦ λ yes. elim [
        | true ↦ λ both e. absurd (cc)
        | false ↦ λ misses e. subst (IsDelay contract buckets clp moment) (same_Some other excess e)
            (second-delay contract buckets clp moment charged.second met refl misses)
      ]
      | false ↦ λ misses c any e. subst (IsDelay contract buckets clp moment) (same_Some one excess e)
          (peak, refl, least-delay peak buckets.first moment charged.first misses)
    ] in
    first (conforms peak buckets.first moment) refl (conforms_if_met met buckets.second moment) refl is
