-- The burst bound: what the cells of a span put into the bucket is still in it, except for what drained since the
-- span began.
use Rattle.std.proofs.Common.{◌≡◌, ℕ, suc, ◌+◌, ◌*◌, ◌/◌, ◌≤◌, nat_le, Bool, true, false, cond, List, [], ◌∷◌, length, filter, subst, refl, arith}
use Rattle.std.specs.Cmp.{first_so, second_so}
use Rattle.std.proofs.lemmas.Bool.{leb-true}
use Rattle.std.proofs.lemmas.Nat.{le-div}
use Rattle.leaky.specs.declared.gcra.Gcra.{Gcra}
use Rattle.leaky.specs.Moments.{GoesOn}
use Rattle.leaky.specs.Bucket.{Bucket, level_at, conforms, filled, bucket_after, conforming}
use Rattle.leaky.specs.Bursts.{is_within, count_within, AllFill, Fills}
use Rattle.leaky.specs.Laws.{BurstsAreBounded, FillingsAreBounded}
use Rattle.leaky.proofs.SchedulingLemmas.{GoesOn-earlier}

-- Cells that all fill the bucket.

-- At most `most` increments fit into the span and the limit together.
abbrev IsMost : Gcra → ℕ → ℕ → Type 0
IsMost gcra span most = (k : ℕ) → k * gcra.increment ≤ span + gcra.limit → k ≤ most

module _ (gcra : Gcra) (first span most : ℕ) (few : IsMost gcra span most) where
  -- After `done` cells of the span, the bucket is empty no earlier than `first + done * T`.
  record Holds (bucket : Bucket) (latest done : ℕ) : Type 0 where
    empties : first + done * gcra.increment ≤ bucket.level + bucket.charged
    charged : bucket.charged ≤ latest

  -- A further cell preserves this.
  Holds-filled : (bucket : Bucket) (latest done moment : ℕ) → latest ≤ moment
      → Holds bucket latest done → Holds (filled gcra bucket moment) moment done
  Holds-filled bucket latest done moment later holds = record {
    empties = omega arith;
    charged = omega arith;
  }

  -- The first cell of the span.
  Holds-first : (bucket : Bucket) (moment : ℕ) → first ≤ moment
      → Holds (filled gcra bucket moment) moment 1
  Holds-first bucket moment begun = record { empties = omega arith; charged = omega arith }

  -- The next cell of the span.
  Holds-next : (bucket : Bucket) (latest done moment : ℕ) → latest ≤ moment
      → Holds bucket latest done → Holds (filled gcra bucket moment) moment (suc done)
  Holds-next bucket latest done moment later holds = record {
    empties = omega arith;
    charged = omega arith;
  }

  -- A bucket that conforms within the span was filled in it at most `most` times.
  Holds-few : (bucket : Bucket) (latest done moment : ℕ) → latest ≤ moment → moment ≤ first + span
      → level_at bucket moment ≤ gcra.limit → Holds bucket latest done → done ≤ most
  Holds-few bucket latest done moment later within low holds = few done (omega arith)

  -- After at least one cell of the span.
  more_within : (bucket : Bucket) (latest : ℕ) (moments : List ℕ) (done : ℕ)
      → Holds bucket latest done → done ≤ 1 + most → GoesOn latest moments
      → AllFill gcra bucket moments → done + count_within first span moments ≤ 1 + most
  more_within bucket latest [] done holds bound goes fill = omega arith
  more_within bucket latest (moment ∷ moments) done holds bound goes fill =
      let after = filled gcra bucket moment in
      let kept = filter (is_within first span) moments in
      let choice : (b : Bool) → is_within first span moment ≡ b
      → done + length (cond b (moment ∷ kept) kept) ≤ 1 + most = elim [
        | true ↦ λ e.
            let ends = second_so (nat_le first moment) (nat_le moment (first + span)) e in
            let within : moment ≤ first + span = leb-true moment (first + span) ends in
            let low : level_at bucket moment ≤ gcra.limit =
            leb-true (level_at bucket moment) gcra.limit fill.0 in
            let enough : done ≤ most = Holds-few bucket latest done moment goes.0 within low holds in
            let again = Holds-next bucket latest done moment goes.0 holds in
            let rest = more_within after moment moments (suc done) again (omega arith) goes.1 fill.1 in
            omega arith
        | false ↦ λ e.
            let still = Holds-filled bucket latest done moment goes.0 holds in
            more_within after moment moments done still bound goes.1 fill.1
      ] in
      choice (is_within first span moment) refl

  -- From the start.
  all_within : (bucket : Bucket) (latest : ℕ) (moments : List ℕ) → GoesOn latest moments
      → AllFill gcra bucket moments → count_within first span moments ≤ 1 + most
  all_within bucket latest [] goes fill = omega arith
  all_within bucket latest (moment ∷ moments) goes fill =
      let after = filled gcra bucket moment in
      let kept = filter (is_within first span) moments in
      let choice : (b : Bool) → is_within first span moment ≡ b
      → length (cond b (moment ∷ kept) kept) ≤ 1 + most = elim [
        | true ↦ λ e.
            let begins = first_so (nat_le first moment) (nat_le moment (first + span)) e in
            let begun : first ≤ moment = leb-true first moment begins in
            let once = Holds-first bucket moment begun in
            let rest = more_within after moment moments 1 once (omega arith) goes.1 fill.1 in
            omega arith
        | false ↦ λ e. all_within after moment moments goes.1 fill.1
      ] in
      choice (is_within first span moment) refl

pub fillings-bounded : FillingsAreBounded
fillings-bounded gcra bucket earliest moments goes fill first span =
    let most = (span + gcra.limit) / gcra.increment in
    let few : IsMost gcra span most =
    λ k h. le-div k (span + gcra.limit) gcra.increment gcra.increment_above_zero h in
    all_within gcra first span most few bucket earliest moments goes fill

-- Cells of which only some fill the bucket.

-- The moments of those that fill it don't go back either.
pub GoesOn-some : (test : Bool) (earliest moment : ℕ) (later : List ℕ) → earliest ≤ moment
    → GoesOn moment later → GoesOn earliest (cond test (moment ∷ later) later)
GoesOn-some true earliest moment later h goes = (h, goes)
GoesOn-some false earliest moment later h goes = GoesOn-earlier earliest moment later h goes

-- Each of them finds the bucket as the one before left it.
pub AllFill-some : (gcra : Gcra) (bucket after : Bucket) (moment : ℕ) (later : List ℕ) (test : Bool)
    → Fills gcra bucket after moment test → AllFill gcra after later
    → AllFill gcra bucket (cond test (moment ∷ later) later)
AllFill-some gcra bucket after moment later true here rest =
    ((here.fills refl).0, subst (λ b. AllFill gcra b later) (here.fills refl).1 rest)
AllFill-some gcra bucket after moment later false here rest =
    subst (λ b. AllFill gcra b later) (here.leaves refl) rest

-- With one bucket, the conforming cells are those that fill it.
bucket_after-Fills : (gcra : Gcra) (bucket : Bucket) (moment : ℕ)
    → Fills gcra bucket (bucket_after gcra bucket moment) moment (conforms gcra bucket moment)
bucket_after-Fills gcra bucket moment = record {
  fills = λ e. (e, rw e refl);
  leaves = λ e. rw e refl;
}

conforming-goes : (gcra : Gcra) (bucket : Bucket) (earliest : ℕ) (moments : List ℕ)
    → GoesOn earliest moments → GoesOn earliest (conforming gcra bucket moments)
conforming-goes gcra bucket earliest [] goes = tt
conforming-goes gcra bucket earliest (moment ∷ moments) goes =
    let after = bucket_after gcra bucket moment in
    GoesOn-some (conforms gcra bucket moment) earliest moment (conforming gcra after moments) goes.0
    (conforming-goes gcra after moment moments goes.1)

conforming-fill : (gcra : Gcra) (bucket : Bucket) (moments : List ℕ)
    → AllFill gcra bucket (conforming gcra bucket moments)
conforming-fill gcra bucket [] = tt
conforming-fill gcra bucket (moment ∷ moments) =
    let after = bucket_after gcra bucket moment in
    AllFill-some gcra bucket after moment (conforming gcra after moments) (conforms gcra bucket moment)
    (bucket_after-Fills gcra bucket moment) (conforming-fill gcra after moments)

pub bursts-bounded : BurstsAreBounded
bursts-bounded gcra bucket earliest moments goes first span =
    fillings-bounded gcra bucket earliest (conforming gcra bucket moments)
    (conforming-goes gcra bucket earliest moments goes) (conforming-fill gcra bucket moments)
    first span
