-- A burst at the peak rate in a bucket of the sustainable rate: each cell raises the level by T_SCR - T_PCR.
use Rattle.std.proofs.Common.{◌≡◌, ℕ, zero, suc, ◌+◌, ◌-◌, ◌*◌, ◌≤◌, ◌↔◌, ap, arith}
use Rattle.std.proofs.lemmas.Bool.{leb-true, le-leb}
use Rattle.leaky.specs.declared.gcra.Gcra.{Gcra}
use Rattle.leaky.specs.Bucket.{Bucket, opening, level_at, filled}
use Rattle.leaky.specs.Bursts.{AllFill}
use Rattle.leaky.specs.Tolerance.{spaced}
use Rattle.leaky.specs.Laws.{TolerancesAreExact}

-- After `done` cells, with n + 1 still to come.
AllFill-spaced : (gcra : Gcra) (tp excess : ℕ) → gcra.increment ≡ tp + excess
    → (n done first : ℕ) (bucket : Bucket) → level_at bucket first ≡ done * excess
    → AllFill gcra bucket (spaced (suc n) tp first) ↔ ((done + n) * excess ≤ gcra.limit)
AllFill-spaced gcra tp excess sum zero done first bucket is = (
  λ fill.
      let low : level_at bucket first ≤ gcra.limit = leb-true (level_at bucket first) gcra.limit fill.0 in
      omega arith,
  λ low. (le-leb (level_at bucket first) gcra.limit (omega arith), tt),
)
AllFill-spaced gcra tp excess sum (suc n) done first bucket is =
    let rises : level_at (filled gcra bucket first) (first + tp) ≡ suc done * excess = omega arith in
    let rest = AllFill-spaced gcra tp excess sum n (suc done) (first + tp) (filled gcra bucket first) rises in (
      λ fill. let low : (suc done + n) * excess ≤ gcra.limit = rest.0 fill.1 in omega arith,
      λ low. (le-leb (level_at bucket first) gcra.limit (omega arith), rest.1 (omega arith)),
    )

pub tolerances-exact : TolerancesAreExact
tolerances-exact gcra zero tp first below = (λ fill. omega arith, λ low. tt)
tolerances-exact gcra (suc n) tp first below =
    let excess = gcra.increment - tp in
    let sum : gcra.increment ≡ tp + excess = omega arith in
    let empty : level_at opening first ≡ 0 * excess = omega arith in
    let all = AllFill-spaced gcra tp excess sum n 0 first opening empty in
    let others : suc n - 1 ≡ 0 + n = omega arith in
    rw (ap (λ k. k * excess) others) all
